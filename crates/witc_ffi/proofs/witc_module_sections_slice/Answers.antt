use Rattle.std.proofs.Common.{[]}
use Rattle.witc_alike.specs.Carried.{ListsData, RefusesSections}
use Rattle.witc_ffi.specs.Answers.{NeverBad}
use Rattle.witc_ffi.proofs.OutcomeLaws.{of-bytes, passes}
use Rattle.witc_ffi.proofs.witc_module_sections_slice.Goals as goal

pub returns : goal.returns
returns c =
    let bytes = c.args.bytes.now in
    passes (ListsData bytes []) (RefusesSections bytes) NeverBad c.of_bytes.result c.hand_out.result c.hand_out.new.answer.text c.hand_out.new.why
    (of-bytes (ListsData bytes []) (RefusesSections bytes) NeverBad c.sections_data.result c.of_bytes.result c.sections_data.ensures.data c.sections_data.ensures.refused c.of_bytes.ensures)
    c.hand_out.ensures
