use Rattle.plan_meaning.specs.Built.{is_bare_world, planned_world}
use Rattle.plan_build.specs.{Buildable.world_differs, PlanOf.stated_world}
use Rattle.plan_build.proofs.Listing.{all_more_if, one_more_if}
use Rattle.plan_build.proofs.worlds.worlds_of.Goals as goal

pub loop-world-preserved : goal.loop-world-preserved
loop-world-preserved c =
    let xs = c.args.worlds.now in
    let i = c.loop-world.world-index in
    let x = c.world-item.result in
    record {
      built = one_more_if stated_world xs i x c.loop-world-test.true c.world-item.is planned_world c.loop-world.built.items c.push.new.self.items c.in_ok-value.value c.in_ok-push.ensures.items
          world_differs c.loop-world.invariant.built c.in_ok-value.ensures.built;
      bare = all_more_if stated_world xs i x c.loop-world-test.true c.world-item.is planned_world c.loop-world.built.items c.push.new.self.items c.in_ok-value.value c.in_ok-push.ensures.items
          world_differs is_bare_world c.loop-world.invariant.bare c.in_ok-value.ensures.bare;
    }
