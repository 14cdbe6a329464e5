use Rattle.plan_build.specs.PlanOf.{stated_entry}
use Rattle.plan_parts.proofs.SightLaws.{each_at}
use Rattle.plan_parts.specs.Functions.{found_under}
use Rattle.read_rules.specs.Tables.{numbered_tables}
use Rattle.plan_package.specs.WholeWorlds.{PlansItem, SeenIsKept, SeenIsPlaced}
use Rattle.plan_package.proofs.InterfaceLaws.{zip_more}
use Rattle.plan_package.proofs.worlds.items_of.Goals as goal

pub item_of-requires-clause-kept : goal.item_of-requires-clause-kept
item_of-requires-clause-kept c = each_at (SeenIsKept (numbered_tables c.args.tables.now) c.args.kept.now) c.args.all_seen.now c.loop-seen.seen-index _ c.loop-seen-test.true c.requires.kept

pub item_of-requires-clause-placed : goal.item_of-requires-clause-placed
item_of-requires-clause-placed c = each_at (SeenIsPlaced c.args.places.now.keys) c.args.all_seen.now c.loop-seen.seen-index _ c.loop-seen-test.true c.requires.placed

pub loop-seen-preserved : goal.loop-seen-preserved
loop-seen-preserved c = zip_more (PlansItem (numbered_tables c.args.tables.now) c.args.kept.now c.args.places.now.keys (found_under c.args.resources.now.entries)) stated_entry c.args.all_seen.now
    c.loop-seen.seen-index _ c.loop-seen-test.true c.loop-seen.items.items c.push.new.self.items _ c.in_ok-push.ensures.items c.in_ok-item_of.ensures c.loop-seen.invariant
