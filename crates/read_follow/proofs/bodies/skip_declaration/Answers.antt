use Rattle.read_follow.proofs.SkipLaws.{export_skipped, import_skipped, type_skipped}
use Rattle.read_follow.proofs.bodies.skip_declaration.Goals as goal

pub returns-then-first-eq1 : goal.returns-then-first-eq1
returns-then-first-eq1 c = rw (type_skipped c.args.bytes.now c.in-Some.rest.now c.in-Some.first.now c.in-Some.ensures.cases.0 c.if-first-eq1.true) c.skip_type.ensures

pub returns-then-first-eq3 : goal.returns-then-first-eq3
returns-then-first-eq3 c = rw (import_skipped c.args.bytes.now c.in-Some.rest.now c.in-Some.first.now c.in-Some.ensures.cases.0 c.if-first-eq3.true) c.skip_seen.ensures

pub returns-then-first-eq4 : goal.returns-then-first-eq4
returns-then-first-eq4 c = rw (export_skipped c.args.bytes.now c.in-Some.rest.now c.in-Some.first.now c.in-Some.ensures.cases.0 c.if-first-eq4.true) c.skip_seen-then-first-eq4.ensures
