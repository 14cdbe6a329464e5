use Rattle.witc_written.specs.Written.{EncodesPackage, RefusesEncoded}
use Rattle.witc_ffi.specs.Answers.{NeverBad, is_asked}
use Rattle.witc_ffi.proofs.OutcomeLaws.{of-bytes, passes}
use Rattle.witc_ffi.proofs.witc_package_bytes_slice.Goals as goal

pub returns : goal.returns
returns c =
    let bytes = c.args.bytes.now in
    let canonical = is_asked c.args.canonical in
    passes (EncodesPackage bytes canonical) (RefusesEncoded bytes canonical) NeverBad c.of_bytes.result c.hand_out.result c.hand_out.new.answer.text c.hand_out.new.why
    (of-bytes (EncodesPackage bytes canonical) (RefusesEncoded bytes canonical) NeverBad c.package_bytes.result c.of_bytes.result c.package_bytes.ensures.encoded c.package_bytes.ensures.refused
    c.of_bytes.ensures) c.hand_out.ensures
