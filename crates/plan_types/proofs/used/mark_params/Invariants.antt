use Rattle.std.proofs.Common.{map, take}
use Rattle.plan_types.specs.Used.{Marks}
use Rattle.plan_types.proofs.used.mark_params.Given as goal

-- the marks of so many
abbrev pub invariant-loop-param : goal.invariant-loop-param
invariant-loop-param l = Marks (map (λ x. x.1) (take l.param-index l.params)) l.initial.marks l.marks
