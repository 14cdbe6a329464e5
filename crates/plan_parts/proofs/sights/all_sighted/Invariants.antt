use Rattle.std.proofs.Common.{◌≡◌, map, take}
use Rattle.read_rules.specs.Sights.{numbered_sight}
use Rattle.plan_parts.specs.Views.{in_numbers, sighted}
use Rattle.plan_parts.proofs.sights.all_sighted.Given as goal

-- so many places are noted
abbrev pub invariant-loop-sight : goal.invariant-loop-sight
invariant-loop-sight l = map sighted l.all.items ≡ map in_numbers (map numbered_sight (take l.sight-index l.sights))
