use Rattle.std.proofs.Common.{ap, Some, None}
use Rattle.comp_bytes.specs.Reading.{u32_at, vector_at}
use Rattle.read_follow.specs.Bodies.{behind}
use Rattle.read_follow.proofs.{Refusing.refused, SkipLaws.vector_found}
use Rattle.read_follow.proofs.skips.skip_vector.Goals as goal

pub returns-in-Ok : goal.returns-in-Ok
returns-in-Ok g c = rw (vector_found g.T.Skips.reader c.args.bytes.now (Some (c.in-Ok.count, c.in-Ok.items.now)) c.in-Ok.ensures) c.skip_each.ensures

pub returns-in-Err : goal.returns-in-Err
returns-in-Err g c = refused c.in-Err.refusal (u32_at c.args.bytes.now) (behind (vector_at g.T.Skips.reader c.args.bytes.now)) (λ e. ap behind (vector_found g.T.Skips.reader c.args.bytes.now None e))
    c.in-Err.ensures
