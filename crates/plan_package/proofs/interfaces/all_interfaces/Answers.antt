use Rattle.std.proofs.Common.{map}
use Rattle.plan_build.specs.PlanOf.{stated_interface}
use Rattle.read_exports.specs.Members.{homes_alone}
use Rattle.read_rules.specs.{Sights.numbered_sight, Tables.numbered_tables}
use Rattle.plan_meaning.specs.NumberedMembers.{home_at}
use Rattle.plan_package.specs.WholeInterfaces.{PlansPlace}
use Rattle.plan_package.proofs.InterfaceLaws.{zip_more}
use Rattle.plan_package.proofs.interfaces.all_interfaces.Goals as goal

pub loop-place-preserved : goal.loop-place-preserved
loop-place-preserved c = zip_more (PlansPlace (numbered_tables c.args.tables.now) c.args.kept.now c.args.main (home_at (homes_alone c.args.homes.now)) (map numbered_sight c.args.sights.now))
    stated_interface c.args.places.now c.loop-place.place-index _ c.loop-place-test.true c.loop-place.all.items c.push.new.self.items _ c.in_ok-push.ensures.items c.in_ok-interface_at.ensures
    c.loop-place.invariant
