use Rattle.text_plain.proofs.ExpandLaws.{still_including, taken_none, taken_turn}
use Rattle.text_plain.proofs.expand.include_parts.Goals as goal

pub loop-part-init : goal.loop-part-init
loop-part-init c = taken_none c.args.worlds.now c.args.merged.now c.requires.merged

pub include_part-requires : goal.include_part-requires
include_part-requires c = still_including c.args.worlds.now c.args.done.now c.args.scope.now _ c.args.merged.now c.loop-part.merged c.requires c.loop-part.invariant

pub loop-part-preserved : goal.loop-part-preserved
loop-part-preserved c = taken_turn c.args.worlds.now c.args.scope.now c.args.parts.now c.loop-part.part-index c.part-item.result c.args.merged.now c.loop-part.merged c.include_part.new.merged
    c.loop-part-test.true c.part-item.is c.loop-part.invariant c.in_ok-include_part.ensures
