use Rattle.std.proofs.Common.{ap}
use Rattle.read_follow.specs.Bodies.{behind}
use Rattle.read_follow.proofs.Refusing.{refused}
use Rattle.read_follow.proofs.skips.skip_read.Goals as goal

pub returns-in-Err : goal.returns-in-Err
returns-in-Err g c = refused c.in-Err.refusal (g.T.Form.reader c.args.bytes.now) (behind (g.T.Form.reader c.args.bytes.now)) (λ e. ap behind e) c.in-Err.ensures.found
