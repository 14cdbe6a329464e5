use Rattle.std.proofs.Common.{map, take}
use Rattle.std.specs.List.{AllZip}
use Rattle.plan_build.specs.PlanOf.{stated_interface}
use Rattle.read_exports.specs.Members.{homes_alone}
use Rattle.read_rules.specs.{Sights.numbered_sight, Tables.numbered_tables}
use Rattle.plan_meaning.specs.NumberedMembers.{home_at}
use Rattle.plan_package.specs.WholeInterfaces.{PlansPlace}
use Rattle.plan_package.proofs.interfaces.all_interfaces.Given as goal

-- so many interfaces
abbrev pub invariant-loop-place : goal.invariant-loop-place
invariant-loop-place l =
    AllZip (PlansPlace (numbered_tables l.tables) l.kept l.main (home_at (homes_alone l.homes)) (map numbered_sight l.sights)) (take l.place-index l.places) (map stated_interface l.all.items)
