use Rattle.wit_component.specs.Decoded.{RefusesBytes}
use Rattle.witc_texts.specs.Printed.{PrintsBytes}
use Rattle.witc_ffi.specs.Answers.{NeverBad}
use Rattle.witc_ffi.proofs.OutcomeLaws.{of-bytes, passes}
use Rattle.witc_ffi.proofs.witc_package_text_slice.Goals as goal

pub returns : goal.returns
returns c =
    let bytes = c.args.bytes.now in
    passes (PrintsBytes bytes) (RefusesBytes bytes) NeverBad c.of_bytes.result c.hand_out.result c.hand_out.new.answer.text c.hand_out.new.why
    (of-bytes (PrintsBytes bytes) (RefusesBytes bytes) NeverBad c.print.result c.of_bytes.result c.print.ensures.printed c.print.ensures.refused c.of_bytes.ensures) c.hand_out.ensures
