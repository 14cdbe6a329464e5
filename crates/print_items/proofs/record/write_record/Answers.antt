use Rattle.std.specs.Prelude.{codes}
use Rattle.print_items.specs.{Shown.shown_field, DeclaredCalls.block_start_calls}
use Rattle.print_grammar.specs.{Calls.field_calls, WellNamed.is_well_field}
use Rattle.print_output.specs.declared.type_kind.TypeKind.TheVariants.{Record}
use Rattle.wit_model.specs.Names.{is_label}
use Rattle.print_items.proofs.{Declared.block_members, Driven.block_driven}
use Rattle.base_lemmas.proofs.Bools.{left_of}
use Rattle.print_items.proofs.record.write_record.Goals as goal

pub write_block_start-requires-clause-label : goal.write_block_start-requires-clause-label
write_block_start-requires-clause-label g c = left_of _ _ c.requires.well

pub write_fields-requires-clause-well : goal.write_fields-requires-clause-well
write_fields-requires-clause-well g c = rw c.deref.ensures.value (block_members is_well_field (shown_field c.args.resolve.now) (is_label c.args.name.now) c.args.of.now.fields.items c.requires.well)

pub returns : goal.returns
returns g c = record {
  calls = block_driven (block_start_calls (codes "record") c.args.name.now Record) (field_calls c.args.emits_docs) (shown_field c.args.resolve.now) _ _ c.write_block_start.ensures.calls
      c.write_fields.ensures.calls c.indent_end.ensures.calls c.deref.ensures.value;
}
