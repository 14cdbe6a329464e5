use Rattle.witc_written.specs.Written.{EncodesModule, RefusesEncodedModule}
use Rattle.witc_ffi.specs.Answers.{NeverBad}
use Rattle.witc_ffi.proofs.OutcomeLaws.{of-bytes, passes}
use Rattle.witc_ffi.proofs.witc_module_package_slice.Goals as goal

pub returns : goal.returns
returns c =
    let bytes = c.args.bytes.now in
    passes (EncodesModule bytes) (RefusesEncodedModule bytes) NeverBad c.of_bytes.result c.hand_out.result c.hand_out.new.answer.text c.hand_out.new.why
    (of-bytes (EncodesModule bytes) (RefusesEncodedModule bytes) NeverBad c.module_package.result c.of_bytes.result c.module_package.ensures.encoded c.module_package.ensures.refused
    c.of_bytes.ensures) c.hand_out.ensures
