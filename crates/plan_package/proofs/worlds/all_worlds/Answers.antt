use Rattle.plan_build.specs.PlanOf.{stated_world}
use Rattle.plan_parts.proofs.InterfaceLaws.{mapped_at, zip_next}
use Rattle.read_rules.specs.Tables.{numbered_tables}
use Rattle.plan_package.specs.WholeWorlds.{labelled, PlansWorld, WorldIsKept, WorldIsPlaced}
use Rattle.plan_package.proofs.worlds.all_worlds.Goals as goal

pub world_of-requires-clause-kept : goal.world_of-requires-clause-kept
world_of-requires-clause-kept c = mapped_at (λ w. WorldIsKept (numbered_tables c.args.tables.now) c.args.kept.now w.1) labelled c.args.worlds.now c.loop-world.world-index _ c.loop-world-test.true
    c.requires.kept

pub world_of-requires-clause-placed : goal.world_of-requires-clause-placed
world_of-requires-clause-placed c = mapped_at (λ w. WorldIsPlaced c.args.places.now.keys w.1) labelled c.args.worlds.now c.loop-world.world-index _ c.loop-world-test.true c.requires.placed

pub loop-world-preserved : goal.loop-world-preserved
loop-world-preserved c = zip_next (PlansWorld (numbered_tables c.args.tables.now) c.args.kept.now c.args.places.now.keys c.args.main.0) labelled stated_world c.args.worlds.now c.loop-world.world-index
    _ c.loop-world.all.items c.push.new.self.items _ c.loop-world-test.true c.in_ok-push.ensures.items c.in_ok-world_of.ensures c.loop-world.invariant
