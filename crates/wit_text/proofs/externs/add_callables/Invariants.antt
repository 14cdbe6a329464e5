use Rattle.wit_text.specs.Stages.{AddsCallables}
use Rattle.wit_text.proofs.externs.add_callables.Given as goal

-- those that came are added
abbrev pub invariant-loop-callable : goal.invariant-loop-callable
invariant-loop-callable l = AddsCallables l.yielded l.initial.entries.entries l.entries.entries
