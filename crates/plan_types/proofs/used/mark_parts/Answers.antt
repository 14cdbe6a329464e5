use Rattle.std.proofs.Common.{subst}
use Rattle.plan_types.specs.Used.{Marks}
use Rattle.plan_types.proofs.MarkLaws.{marks_none, part_all, part_next, itself_mapped}
use Rattle.plan_types.proofs.used.mark_parts.Goals as goal

pub loop-part-init : goal.loop-part-init
loop-part-init c = marks_none c.args.marks.now

pub loop-part-preserved : goal.loop-part-preserved
loop-part-preserved c = part_next (λ x. x) c.args.parts.now c.loop-part.part-index _ c.args.marks.now c.loop-part.marks c.mark_part.new.marks c.loop-part-test.true c.loop-part.invariant
    c.mark_part.ensures

pub returns : goal.returns
returns c = subst (λ ps. Marks ps c.args.marks.now c.loop-part.marks) (itself_mapped c.args.parts.now)
    (part_all (λ x. x) c.args.parts.now c.loop-part.part-index c.args.marks.now c.loop-part.marks c.loop-part-test.false c.loop-part.invariant)
