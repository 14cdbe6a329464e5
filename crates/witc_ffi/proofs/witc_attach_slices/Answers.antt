use Rattle.witc_ffi.specs.Answers.{IsAttached, LacksPart, RefusesAttachedTo, is_asked}
use Rattle.witc_ffi.proofs.OutcomeLaws.{passes}
use Rattle.witc_ffi.proofs.witc_attach_slices.Goals as goal

pub returns : goal.returns
returns c =
    let module_ = c.args.«module».now in
    let bytes = c.args.bytes.now in
    let name = c.args.name.now in
    let encoding = c.args.encoding in
    let canonical = is_asked c.args.canonical in
    passes (IsAttached module_ bytes name encoding canonical) (RefusesAttachedTo module_ bytes name encoding canonical) (LacksPart bytes name encoding) c.attached.result c.hand_out.result
    c.hand_out.new.answer.text c.hand_out.new.why
    c.attached.ensures c.hand_out.ensures
