use Rattle.text_types.specs.Making.{AddsAll}
use Rattle.text_types.proofs.members.add_all.Given as goal

-- those that came are added
abbrev pub invariant-loop-callable : goal.invariant-loop-callable
invariant-loop-callable l = AddsAll l.yielded l.initial.functions l.functions
