use Rattle.plan_parts.proofs.KindLaws.{CasesSoFar}
use Rattle.plan_parts.proofs.kinds.cases_of.Given as goal

-- so many cases, and so many of the parts
abbrev pub invariant-loop-label : goal.invariant-loop-label
invariant-loop-label l = CasesSoFar l.kept l.parts l.labels l.label-index l.next l.cases.items
