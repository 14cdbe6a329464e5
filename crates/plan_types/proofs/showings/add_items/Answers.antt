use Rattle.std.proofs.Common.{map}
use Rattle.plan_types.specs.Showings.{numbered_showing, showings_of_seen}
use Rattle.read_rules.proofs.SightLaws.{all_added, one_added}
use Rattle.plan_types.proofs.showings.add_items.Goals as goal

pub loop-item-preserved : goal.loop-item-preserved
loop-item-preserved c = one_added showings_of_seen c.args.items.now c.loop-item.item-index (map numbered_showing c.loop-item.all.items) c.loop-item.invariant _ c.loop-item-test.true
    (map numbered_showing c.add_seen.new.all.items) c.in_ok-add_seen.ensures

pub returns : goal.returns
returns c = all_added showings_of_seen c.args.items.now c.loop-item.item-index (map numbered_showing c.loop-item.all.items) c.loop-item.invariant c.loop-item-test.false
