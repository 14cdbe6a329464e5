use Rattle.read_follow.proofs.SkipLaws.{held_export_skipped, held_type_skipped}
use Rattle.read_follow.proofs.bodies.skip_held.Goals as goal

pub returns-then-first-eq1 : goal.returns-then-first-eq1
returns-then-first-eq1 c = rw (held_type_skipped c.args.bytes.now c.in-Some.rest.now c.in-Some.first.now c.in-Some.ensures.cases.0 c.if-first-eq1.true) c.skip_type.ensures

pub returns-then-first-eq4 : goal.returns-then-first-eq4
returns-then-first-eq4 c = rw (held_export_skipped c.args.bytes.now c.in-Some.rest.now c.in-Some.first.now c.in-Some.ensures.cases.0 c.if-first-eq4.true) c.skip_seen.ensures
