use Rattle.plan_meaning.specs.Built.{is_bare_interface, planned_interface}
use Rattle.plan_build.specs.{Buildable.interface_differs, PlanOf.stated_interface}
use Rattle.plan_build.proofs.Listing.{all_more_if, one_more_if}
use Rattle.plan_build.proofs.interfaces.interfaces_of.Goals as goal

pub loop-interface-preserved : goal.loop-interface-preserved
loop-interface-preserved c =
    let xs = c.args.interfaces.now in
    let i = c.loop-interface.interface-index in
    let x = c.interface-item.result in
    record {
      built = one_more_if stated_interface xs i x c.loop-interface-test.true c.interface-item.is planned_interface c.loop-interface.built.items c.push.new.self.items c.in_ok-value.value
          c.in_ok-push.ensures.items interface_differs c.loop-interface.invariant.built c.in_ok-value.ensures.built;
      bare = all_more_if stated_interface xs i x c.loop-interface-test.true c.interface-item.is planned_interface c.loop-interface.built.items c.push.new.self.items c.in_ok-value.value
          c.in_ok-push.ensures.items interface_differs is_bare_interface c.loop-interface.invariant.bare c.in_ok-value.ensures.bare;
    }
