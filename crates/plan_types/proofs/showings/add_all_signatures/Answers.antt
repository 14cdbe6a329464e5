use Rattle.plan_types.specs.Showings.{signatures_of_seen}
use Rattle.read_rules.proofs.SightLaws.{all_added, one_added}
use Rattle.plan_types.proofs.showings.add_all_signatures.Goals as goal

pub loop-item-preserved : goal.loop-item-preserved
loop-item-preserved c = one_added signatures_of_seen c.args.items.now c.loop-item.item-index (c.loop-item.all.items) c.loop-item.invariant _ c.loop-item-test.true (c.add_signatures.new.all.items)
    c.in_ok-add_signatures.ensures

pub returns : goal.returns
returns c = all_added signatures_of_seen c.args.items.now c.loop-item.item-index (c.loop-item.all.items) c.loop-item.invariant c.loop-item-test.false
