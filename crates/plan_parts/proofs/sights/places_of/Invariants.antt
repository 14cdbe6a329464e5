use Rattle.std.proofs.Common.{◌<◌, take}
use Rattle.std.specs.List.{AllByRecursion}
use Rattle.read_rules.specs.declared.sights.Sight.{Sight}
use Rattle.plan_parts.proofs.sights.places_of.Given as goal

-- the places of so many views
abbrev pub invariant-loop-sight : goal.invariant-loop-sight
invariant-loop-sight l = AllByRecursion (λ (s : Sight). s.place < l.places) (take l.sight-index l.sights)
