use Rattle.std.proofs.Common.{map, take}
use Rattle.read_exports.specs.Members.{homes_alone, numbered_members}
use Rattle.read_rules.specs.Sights.{numbered_sight}
use Rattle.comp_read.proofs.OwnViews.{IsGathered}
use Rattle.comp_read.proofs.own.interfaces_among.Given as goal

-- what is gathered of so many views
abbrev pub invariant-loop-sight : goal.invariant-loop-sight
invariant-loop-sight l = IsGathered (homes_alone l.homes) l.package_number (map numbered_sight l.sights) (map numbered_sight (take l.sight-index l.sights)) l.places.keys
    (numbered_members l.members.items)
