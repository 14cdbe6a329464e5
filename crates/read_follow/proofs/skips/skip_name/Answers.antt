use Rattle.std.proofs.Common.{ap}
use Rattle.comp_bytes.specs.Reading.{name_at}
use Rattle.read_follow.specs.Bodies.{behind}
use Rattle.read_follow.proofs.Refusing.{refused}
use Rattle.read_follow.proofs.skips.skip_name.Goals as goal

pub returns-in-Err : goal.returns-in-Err
returns-in-Err c = refused c.in-Err.refusal (name_at c.args.bytes.now) (behind (name_at c.args.bytes.now)) (λ e. ap behind e) c.in-Err.ensures
