-- The parameters so far are printed.
use Rattle.std.proofs.Common.{◌∷◌, take, false}
use Rattle.std.specs.{Prelude.codes, List.flat_map}
use Rattle.print_output.specs.OutputCall.{OutputCall}
use Rattle.print_items.specs.{Shown.shown_param, Drives.Drives, Drives.LineIs}
use Rattle.print_grammar.specs.Calls.{param_calls}
use Rattle.print_items.proofs.function.write_more_params.Given as goal

abbrev pub invariant-loop-param : goal.invariant-loop-param
invariant-loop-param g l = record {
  line : LineIs g.O.Output.view false l.driver;
  calls : Drives g.O.Output.view g.O.Output.keeps l.fn.driver (flat_map (λ param. OutputCall.Str (codes ", ") ∷ param_calls (shown_param l.resolve param)) (take l.param-index l.params)) l.driver;
}
