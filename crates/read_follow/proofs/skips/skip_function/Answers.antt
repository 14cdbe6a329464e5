use Rattle.std.proofs.Common.{ap}
use Rattle.comp_bytes.specs.{FirstByte.function_type_at, Reading.field_at, Reading.result_list_at, Reading.vector_at}
use Rattle.read_follow.specs.Bodies.{behind}
use Rattle.read_follow.proofs.{Refusing.refused, SkipLaws.function_cut, SkipLaws.function_skipped, SkipLaws.function_unended}
use Rattle.read_follow.proofs.skips.skip_function.Goals as goal

pub returns-in-Ok-result_list_of : goal.returns-in-Ok-result_list_of
returns-in-Ok-result_list_of c = function_skipped c.args.async_ c.args.bytes.now c.in-Ok.rest.now c.in-Ok-result_list_of.rest.now c.in-Ok.ensures (ap behind c.in-Ok-result_list_of.ensures)

pub returns-in-Err-result_list_of : goal.returns-in-Err-result_list_of
returns-in-Err-result_list_of c = refused c.in-Err-result_list_of.refusal (result_list_at c.in-Ok.rest.now) (behind (function_type_at c.args.async_ c.args.bytes.now))
    (λ e. function_unended c.args.async_ c.args.bytes.now c.in-Ok.rest.now c.in-Ok.ensures (ap behind e)) c.in-Err-result_list_of.ensures

pub returns-in-Err : goal.returns-in-Err
returns-in-Err c = refused c.in-Err.refusal (behind (vector_at field_at c.args.bytes.now)) (behind (function_type_at c.args.async_ c.args.bytes.now)) (function_cut c.args.async_ c.args.bytes.now)
    c.in-Err.ensures
