use Rattle.plan_parts.proofs.KeptLaws.{are_marked, are_numbered}
use Rattle.plan_parts.proofs.kept.Kept.of.Goals as goal

pub invariant_of-result : goal.invariant_of-result
invariant_of-result c = are_numbered c.args.marks.now c.in_ok-shapes.shapes.items c.in_ok-shapes.numbers.items c.in_ok-shapes.ensures.shapes c.in_ok-shapes.ensures.numbers

pub returns : goal.returns
returns c = are_marked c.args.marks.now c.in_ok-shapes.shapes.items c.in_ok-shapes.ensures.shapes
