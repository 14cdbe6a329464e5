use Rattle.std.proofs.Common.{◌≡◌, map, drop}
use Rattle.std.specs.Cmp.Lexicographic.{pointwise}
use Rattle.read_rules.specs.Views.{numbered_function}
use Rattle.plan_parts.specs.Agreement.{tells_same}
use Rattle.plan_parts.proofs.agreement.same_in_order.Given as goal

-- the pairs that are left decide
abbrev pub invariant-loop-number : goal.invariant-loop-number
invariant-loop-number l = pointwise tells_same (map numbered_function (drop l.number l.first)) (map numbered_function (drop l.number l.functions)) ≡ pointwise tells_same
    (map numbered_function l.first) (map numbered_function l.functions)
