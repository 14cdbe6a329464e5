use Rattle.print_items.specs.Shown.{shown_param}
use Rattle.print_grammar.specs.{WellNamed.is_well_param, Calls.param_calls}
use Rattle.print_items.proofs.{Runs.passes_at, Driven.driven, Driven.one_run, Driven.run_cut, Driven.line_refused}
use Rattle.std.proofs.Common.{◌∷◌, false}
use Rattle.std.specs.Prelude.{codes}
use Rattle.print_output.specs.OutputCall.OutputCall.{Str}
use Rattle.print_items.proofs.function.write_more_params.Goals as goal

pub write_param-requires-clause-well : goal.write_param-requires-clause-well
write_param-requires-clause-well g c = passes_at (λ x. is_well_param (shown_param c.args.resolve.now x)) c.args.params.now c.loop-param.param-index c.param-item.result c.requires.well
    c.loop-param-test.true c.param-item.is

pub loop-param-preserved : goal.loop-param-preserved
loop-param-preserved g c = record {
  calls = one_run (λ param. Str (codes ", ") ∷ param_calls (shown_param c.args.resolve.now param)) _ _ _ c.loop-param.invariant.calls c.loop-param-test.true
      c.param-item.is (driven c.str.ensures.calls c.write_param.ensures.calls);
  line = c.write_param.ensures.line;
}

pub returns-then-driver : goal.returns-then-driver
returns-then-driver g c = record {
  calls = run_cut (λ param. Str (codes ", ") ∷ param_calls (shown_param c.args.resolve.now param)) c.args.params.now c.loop-param.param-index c.loop-param.invariant.calls c.if-driver.true;
  line = line_refused g.O.Output.view false c.loop-param.driver c.if-driver.true;
}
