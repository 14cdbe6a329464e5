use Rattle.witc_written.specs.Worlds.{EncodesWorld, RefusesEncodedWorld}
use Rattle.witc_ffi.specs.Answers.{NeverBad}
use Rattle.witc_ffi.proofs.OutcomeLaws.{of-bytes, passes}
use Rattle.witc_ffi.proofs.witc_world_package_slice.Goals as goal

pub returns : goal.returns
returns c =
    let bytes = c.args.bytes.now in
    passes (EncodesWorld bytes) (RefusesEncodedWorld bytes) NeverBad c.of_bytes.result c.hand_out.result c.hand_out.new.answer.text c.hand_out.new.why
    (of-bytes (EncodesWorld bytes) (RefusesEncodedWorld bytes) NeverBad c.world_package.result c.of_bytes.result c.world_package.ensures.encoded c.world_package.ensures.refused c.of_bytes.ensures)
    c.hand_out.ensures
