use Rattle.print_items.specs.Shown.{shown_field}
use Rattle.print_grammar.specs.{WellNamed.is_well_field, Calls.field_calls}
use Rattle.print_items.proofs.{Runs.passes_at, Driven.one_run, Driven.run_cut}
use Rattle.print_items.proofs.record.write_fields.Goals as goal

pub write_field-requires-clause-well : goal.write_field-requires-clause-well
write_field-requires-clause-well g c = passes_at (λ x. is_well_field (shown_field c.args.resolve.now x)) c.args.fields.now c.loop-field.field-index c.field-item.result c.requires.well
    c.loop-field-test.true c.field-item.is

pub loop-field-preserved : goal.loop-field-preserved
loop-field-preserved g c = record {
  calls = one_run (λ field. field_calls c.args.emits_docs (shown_field c.args.resolve.now field)) _ _ _ c.loop-field.invariant.calls c.loop-field-test.true c.field-item.is c.write_field.ensures.calls;
}

pub returns-then-driver : goal.returns-then-driver
returns-then-driver g c = record {
  calls = run_cut (λ field. field_calls c.args.emits_docs (shown_field c.args.resolve.now field)) c.args.fields.now c.loop-field.field-index c.loop-field.invariant.calls c.if-driver.true;
}
