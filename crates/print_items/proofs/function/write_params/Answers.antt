use Rattle.std.proofs.lemmas.List.{nil_from_length}
use Rattle.std.specs.Prelude.{codes}
use Rattle.print_output.specs.OutputCall.OutputCall.{Str}
use Rattle.print_grammar.specs.{WellNamed.is_well_param, Calls.param_calls}
use Rattle.print_items.specs.Shown.{shown_param}
use Rattle.print_items.proofs.{Runs.separated_first, Driven.driven_on, Driven.driven_none}
use Rattle.base_lemmas.proofs.Bools.{left_of, right_of}
use Rattle.print_items.proofs.function.write_params.Goals as goal

pub write_param-requires-clause-well : goal.write_param-requires-clause-well
write_param-requires-clause-well g c = left_of _ _ (rw c.in-Some.ensures.cases.0 at c.requires.well)

pub write_more_params-requires-clause-well : goal.write_more_params-requires-clause-well
write_more_params-requires-clause-well g c = right_of (is_well_param (shown_param c.args.resolve.now c.in-Some.first.now)) _ (rw c.in-Some.ensures.cases.0 at c.requires.well)

pub returns-in-Some-clause-calls : goal.returns-in-Some-clause-calls
returns-in-Some-clause-calls g c = rw c.in-Some.ensures.cases.0 (driven_on c.write_param.ensures.calls c.write_more_params.ensures.calls
    (separated_first (Str (codes ", ")) (shown_param c.args.resolve.now) param_calls c.in-Some.first.now c.in-Some.rest.now))

pub returns-in_default-clause-calls : goal.returns-in_default-clause-calls
returns-in_default-clause-calls g c = rw (nil_from_length c.args.params.now c.in_default.ensures.cases) (driven_none _)
