use Rattle.std.proofs.Common.{◌≡◌, map, drop}
use Rattle.std.specs.List.{list_all}
use Rattle.plan_meaning.specs.NumberedViews.{agrees_with_first}
use Rattle.read_rules.specs.Sights.{numbered_sight}
use Rattle.plan_parts.proofs.sights.each_agrees.Given as goal

-- those that are left decide
abbrev pub invariant-loop-sight : goal.invariant-loop-sight
invariant-loop-sight l = list_all (λ s. agrees_with_first (map numbered_sight l.sights) (numbered_sight s)) (drop l.sight-index l.sights) ≡ list_all (agrees_with_first (map numbered_sight l.sights))
    (map numbered_sight l.sights)
