use Rattle.text_plain.specs.Merging.{members_seen}
use Rattle.text_plain.proofs.ExpandLaws.{own_turn}
use Rattle.text_plain.proofs.expand.add_parts.Goals as goal

pub loop-part-preserved : goal.loop-part-preserved
loop-part-preserved c = own_turn c.args.scope.now c.args.merged.now.whole.now c.args.merged.now.heading (members_seen c.args.merged.now) c.args.parts.now c.loop-part.part-index c.part-item.result
    c.loop-part.merged c.add_part.new.merged c.loop-part-test.true c.part-item.is c.loop-part.invariant c.in_ok-add_part.ensures
