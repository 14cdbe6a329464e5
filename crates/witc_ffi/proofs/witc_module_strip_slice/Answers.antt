use Rattle.witc_texts.specs.Stripped.{StripsBytes}
use Rattle.witc_ffi.specs.Answers.{NeverBad, RefusesBound}
use Rattle.witc_ffi.proofs.OutcomeLaws.{passes}
use Rattle.witc_ffi.proofs.witc_module_strip_slice.Goals as goal

pub returns : goal.returns
returns c =
    let bytes = c.args.bytes.now in
    passes (StripsBytes bytes) (RefusesBound bytes) NeverBad c.stripped.result c.hand_out.result c.hand_out.new.answer.text c.hand_out.new.why c.stripped.ensures c.hand_out.ensures
