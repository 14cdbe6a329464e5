use Rattle.plan_meaning.specs.Built.{part_of}
use Rattle.plan_parts.proofs.KindLaws.{given_there}
use Rattle.plan_parts.proofs.kinds.given_of.Goals as goal

pub returns-then-shape-eq1 : goal.returns-then-shape-eq1
returns-then-shape-eq1 c =
    let is = given_there c.args.kept.now c.args.shape.number c.args.shape.parts.now c.requires.many c.if-shape-eq1.true (part_of c.part_at.result) c.part_at.ensures in
    record { there = is.0; parts = is.1 }
