use Rattle.std.proofs.Common.{None, Some}
use Rattle.comp_bytes.specs.Reading.{field_at, name_at}
use Rattle.read_follow.specs.Bodies.{behind}
use Rattle.read_follow.proofs.{Refusing.refused, SkipLaws.field_passed}
use Rattle.read_follow.proofs.skips.skip_field.Goals as goal

pub returns-in-Ok : goal.returns-in-Ok
returns-in-Ok c = rw (field_passed c.args.bytes.now (Some c.in-Ok.rest.now) c.in-Ok.ensures) c.skip_value.ensures

pub returns-in-Err : goal.returns-in-Err
returns-in-Err c = refused c.in-Err.refusal (behind (name_at c.args.bytes.now)) (behind (field_at c.args.bytes.now)) (field_passed c.args.bytes.now None) c.in-Err.ensures
