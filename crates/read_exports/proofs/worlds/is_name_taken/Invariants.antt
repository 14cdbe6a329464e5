use Rattle.std.proofs.Common.{◌≡◌, map, drop}
use Rattle.std.specs.List.{list_any}
use Rattle.plan_meaning.specs.NumberedMembers.{is_named_in}
use Rattle.read_rules.specs.Sights.{numbered_sight}
use Rattle.read_exports.specs.Members.{homes_alone}
use Rattle.read_exports.proofs.worlds.is_name_taken.Given as goal

-- those that are left decide
abbrev pub invariant-loop-sight : goal.invariant-loop-sight
invariant-loop-sight l = list_any (λ s. is_named_in (homes_alone l.homes) l.package_number l.name s.place) (drop l.sight-index l.sights)
    ≡ list_any (λ s. is_named_in (homes_alone l.homes) l.package_number l.name s.place) (map numbered_sight l.sights)
