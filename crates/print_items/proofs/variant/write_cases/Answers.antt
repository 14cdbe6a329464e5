use Rattle.print_items.specs.Shown.{shown_case}
use Rattle.print_grammar.specs.{WellNamed.is_well_case, Calls.case_calls}
use Rattle.print_items.proofs.{Runs.passes_at, Driven.one_run, Driven.run_cut}
use Rattle.print_items.proofs.variant.write_cases.Goals as goal

pub write_case-requires-clause-well : goal.write_case-requires-clause-well
write_case-requires-clause-well g c = passes_at (λ x. is_well_case (shown_case c.args.resolve.now x)) c.args.cases.now c.loop-case.case-index c.case-item.result c.requires.well c.loop-case-test.true
    c.case-item.is

pub loop-case-preserved : goal.loop-case-preserved
loop-case-preserved g c = record {
  calls = one_run (λ case. case_calls c.args.emits_docs (shown_case c.args.resolve.now case)) _ _ _ c.loop-case.invariant.calls c.loop-case-test.true c.case-item.is c.write_case.ensures.calls;
}

pub returns-then-driver : goal.returns-then-driver
returns-then-driver g c = record {
  calls = run_cut (λ case. case_calls c.args.emits_docs (shown_case c.args.resolve.now case)) c.args.cases.now c.loop-case.case-index c.loop-case.invariant.calls c.if-driver.true;
}
