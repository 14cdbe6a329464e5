use Rattle.std.proofs.Common.{map, take}
use Rattle.plan_types.specs.Used.{Marks}
use Rattle.plan_types.proofs.used.mark_parts.Given as goal

-- the marks of so many
abbrev pub invariant-loop-part : goal.invariant-loop-part
invariant-loop-part l = Marks (map (λ x. x) (take l.part-index l.parts)) l.initial.marks l.marks
