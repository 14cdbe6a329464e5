use Rattle.std.specs.Prelude.{codes}
use Rattle.print_items.specs.{Shown.shown_flag, DeclaredCalls.block_start_calls}
use Rattle.print_grammar.specs.{Calls.label_calls, WellNamed.is_well_label}
use Rattle.print_output.specs.declared.type_kind.TypeKind.TheVariants.{Flags}
use Rattle.wit_model.specs.Names.{is_label}
use Rattle.print_items.proofs.{Declared.block_members, Driven.block_driven}
use Rattle.base_lemmas.proofs.Bools.{left_of}
use Rattle.print_items.proofs.labels.write_flags.Goals as goal

pub write_block_start-requires-clause-label : goal.write_block_start-requires-clause-label
write_block_start-requires-clause-label g c = left_of _ _ c.requires.well

pub write_each_flag-requires : goal.write_each_flag-requires
write_each_flag-requires g c = record { well = rw c.deref.ensures.value (block_members is_well_label shown_flag (is_label c.args.name.now) c.args.of.now.flags.items c.requires.well) }

pub returns : goal.returns
returns g c = record {
  calls = block_driven (block_start_calls (codes "flags") c.args.name.now Flags) (label_calls c.args.emits_docs) shown_flag _ _ c.write_block_start.ensures.calls
      c.write_each_flag.ensures.calls c.indent_end.ensures.calls c.deref.ensures.value;
}
