use Rattle.std.proofs.Common.{◌≡◌, map, drop}
use Rattle.std.specs.Cmp.Lexicographic.{pointwise}
use Rattle.plan_meaning.specs.NumberedViews.{same_shown}
use Rattle.read_rules.specs.Views.{numbered_type}
use Rattle.plan_parts.proofs.agreement.same_types.Given as goal

-- the pairs that are left decide
abbrev pub invariant-loop-number : goal.invariant-loop-number
invariant-loop-number l = pointwise same_shown (map numbered_type (drop l.number l.first)) (map numbered_type (drop l.number l.types)) ≡ pointwise same_shown (map numbered_type l.first)
    (map numbered_type l.types)
