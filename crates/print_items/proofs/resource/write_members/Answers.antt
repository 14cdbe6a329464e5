use Rattle.print_items.specs.Shown.{shown_resource_member}
use Rattle.print_grammar.specs.{WellNamed.is_well_resource_member, Calls.resource_member_calls}
use Rattle.print_items.proofs.{Runs.passes_at, Driven.one_run, Driven.run_cut}
use Rattle.print_items.proofs.resource.write_members.Goals as goal

pub write_resource_function-requires-clause-well : goal.write_resource_function-requires-clause-well
write_resource_function-requires-clause-well g c = passes_at (λ f. is_well_resource_member (shown_resource_member c.args.resolve.now f.now)) c.args.functions.now c.loop-function.function-index
    c.function-item.result c.requires.well c.loop-function-test.true c.function-item.is

pub loop-function-preserved : goal.loop-function-preserved
loop-function-preserved g c = record {
  calls = one_run (λ f. resource_member_calls c.args.emits_docs (shown_resource_member c.args.resolve.now f.now)) _ _ _ c.loop-function.invariant.calls
      c.loop-function-test.true c.function-item.is c.write_resource_function.ensures.calls;
}

pub returns-then-driver : goal.returns-then-driver
returns-then-driver g c = record {
  calls = run_cut (λ f. resource_member_calls c.args.emits_docs (shown_resource_member c.args.resolve.now f.now)) c.args.functions.now c.loop-function.function-index
      c.loop-function.invariant.calls c.if-driver.true;
}
