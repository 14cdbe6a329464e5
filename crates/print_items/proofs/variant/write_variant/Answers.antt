use Rattle.std.specs.Prelude.{codes}
use Rattle.print_items.specs.{Shown.shown_case, DeclaredCalls.block_start_calls}
use Rattle.print_grammar.specs.{Calls.case_calls, WellNamed.is_well_case}
use Rattle.print_output.specs.declared.type_kind.TypeKind.TheVariants.{Variant}
use Rattle.wit_model.specs.Names.{is_label}
use Rattle.print_items.proofs.{Declared.block_members, Driven.block_driven}
use Rattle.base_lemmas.proofs.Bools.{left_of}
use Rattle.print_items.proofs.variant.write_variant.Goals as goal

pub write_block_start-requires-clause-label : goal.write_block_start-requires-clause-label
write_block_start-requires-clause-label g c = left_of _ _ c.requires.well

pub write_cases-requires-clause-well : goal.write_cases-requires-clause-well
write_cases-requires-clause-well g c = rw c.deref.ensures.value (block_members is_well_case (shown_case c.args.resolve.now) (is_label c.args.name.now) c.args.of.now.cases.items c.requires.well)

pub returns : goal.returns
returns g c = record {
  calls = block_driven (block_start_calls (codes "variant") c.args.name.now Variant) (case_calls c.args.emits_docs) (shown_case c.args.resolve.now) _ _ c.write_block_start.ensures.calls
      c.write_cases.ensures.calls c.indent_end.ensures.calls c.deref.ensures.value;
}
