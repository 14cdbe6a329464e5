use Rattle.plan_meaning.specs.Built.{part_of}
use Rattle.plan_parts.proofs.KindLaws.{part_next}
use Rattle.plan_parts.proofs.kinds.parts_of.Goals as goal

pub loop-part-preserved : goal.loop-part-preserved
loop-part-preserved c = part_next c.args.kept.now c.args.parts.now c.loop-part.part-index _ part_of c.loop-part.types.items c.push.new.self.items c.part.result c.loop-part-test.true
    c.in_ok-push.ensures.items c.part.ensures c.loop-part.invariant
