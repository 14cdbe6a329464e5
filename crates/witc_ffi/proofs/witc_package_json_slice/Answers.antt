use Rattle.witc_listed.specs.Listings.{ListsPackage}
use Rattle.wit_component.specs.Decoded.{RefusesBytes}
use Rattle.witc_ffi.specs.Answers.{NeverBad}
use Rattle.witc_ffi.proofs.OutcomeLaws.{of-bytes, passes}
use Rattle.witc_ffi.proofs.witc_package_json_slice.Goals as goal

pub returns : goal.returns
returns c =
    let bytes = c.args.bytes.now in
    passes (ListsPackage bytes) (RefusesBytes bytes) NeverBad c.of_bytes.result c.hand_out.result c.hand_out.new.answer.text c.hand_out.new.why
    (of-bytes (ListsPackage bytes) (RefusesBytes bytes) NeverBad c.package_json.result c.of_bytes.result c.package_json.ensures.listed c.package_json.ensures.refused c.of_bytes.ensures)
    c.hand_out.ensures
