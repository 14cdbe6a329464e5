use Rattle.std.proofs.Common.{ap}
use Rattle.comp_bytes.specs.Reading.{extern_name_at}
use Rattle.read_follow.specs.Bodies.{behind}
use Rattle.read_follow.proofs.{Refusing.refused, SkipLaws.plain_skipped}
use Rattle.read_follow.proofs.skips.skip_extern_name.Goals as goal

pub returns-then-first-eq0 : goal.returns-then-first-eq0
returns-then-first-eq0 c = rw (plain_skipped c.args.bytes.now c.in-Some.rest.now c.in-Some.first.now c.in-Some.ensures.cases.0 c.if-first-eq0.true) c.skip_name.ensures

pub returns-in-Err : goal.returns-in-Err
returns-in-Err c = refused c.in-Err.refusal (extern_name_at c.args.bytes.now) (behind (extern_name_at c.args.bytes.now)) (λ e. ap behind e) c.in-Err.ensures
