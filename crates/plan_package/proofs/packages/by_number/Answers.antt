use Rattle.std.proofs.Common.{refl}
use Rattle.plan_parts.proofs.InterfaceLaws.{mapped_at, zip_next}
use Rattle.plan_package.specs.WholePackages.{labelled_place, numbered_interface, IsPlaced, ListsPlace}
use Rattle.plan_package.proofs.packages.by_number.Goals as goal

pub number_of-requires : goal.number_of-requires
number_of-requires c = mapped_at (IsPlaced c.args.places.now.keys) labelled_place c.args.interfaces.now c.loop-interface.interface-index _ c.loop-interface-test.true c.requires

pub loop-interface-preserved : goal.loop-interface-preserved
loop-interface-preserved c = zip_next (ListsPlace c.args.places.now.keys) labelled_place numbered_interface c.args.interfaces.now c.loop-interface.interface-index _ c.loop-interface.all.items
    c.push.new.self.items _ c.loop-interface-test.true c.in_ok-push.ensures.items (refl, c.in_ok-number_of.ensures) c.loop-interface.invariant
