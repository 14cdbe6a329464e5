use Rattle.std.specs.Prelude.{codes}
use Rattle.print_items.specs.{Shown.shown_enum_case, DeclaredCalls.block_start_calls}
use Rattle.print_grammar.specs.{Calls.label_calls, WellNamed.is_well_label}
use Rattle.print_output.specs.declared.type_kind.TypeKind.TheVariants.{Enum}
use Rattle.wit_model.specs.Names.{is_label}
use Rattle.print_items.proofs.{Declared.block_members, Driven.block_driven}
use Rattle.base_lemmas.proofs.Bools.{left_of}
use Rattle.print_items.proofs.labels.write_enum.Goals as goal

pub write_block_start-requires-clause-label : goal.write_block_start-requires-clause-label
write_block_start-requires-clause-label g c = left_of _ _ c.requires.well

pub write_each_case-requires : goal.write_each_case-requires
write_each_case-requires g c = record { well = rw c.deref.ensures.value (block_members is_well_label shown_enum_case (is_label c.args.name.now) c.args.of.now.cases.items c.requires.well) }

pub returns : goal.returns
returns g c = record {
  calls = block_driven (block_start_calls (codes "enum") c.args.name.now Enum) (label_calls c.args.emits_docs) shown_enum_case _ _ c.write_block_start.ensures.calls
      c.write_each_case.ensures.calls c.indent_end.ensures.calls c.deref.ensures.value;
}
