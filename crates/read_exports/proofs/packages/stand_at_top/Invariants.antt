use Rattle.std.proofs.Common.{◌≡◌, map, drop}
use Rattle.std.specs.List.{list_all}
use Rattle.read_rules.specs.Sights.{numbered_sight}
use Rattle.read_exports.specs.Members.{homes_alone, stands_among}
use Rattle.read_exports.proofs.packages.stand_at_top.Given as goal

-- those that are left decide
abbrev pub invariant-loop-sight : goal.invariant-loop-sight
invariant-loop-sight l = list_all (λ s. stands_among (homes_alone l.homes) l.package_number l.places.keys (numbered_sight s)) (drop l.sight-index l.sights)
    ≡ list_all (stands_among (homes_alone l.homes) l.package_number l.places.keys) (map numbered_sight l.sights)
