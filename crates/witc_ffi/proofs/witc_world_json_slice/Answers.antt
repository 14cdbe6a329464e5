use Rattle.witc_listed.specs.Listings.{ListsWorld}
use Rattle.wit_component.specs.DecodedWorlds.{RefusesWorldBytes}
use Rattle.witc_ffi.specs.Answers.{NeverBad}
use Rattle.witc_ffi.proofs.OutcomeLaws.{of-bytes, passes}
use Rattle.witc_ffi.proofs.witc_world_json_slice.Goals as goal

pub returns : goal.returns
returns c =
    let bytes = c.args.bytes.now in
    passes (ListsWorld bytes) (RefusesWorldBytes bytes) NeverBad c.of_bytes.result c.hand_out.result c.hand_out.new.answer.text c.hand_out.new.why
    (of-bytes (ListsWorld bytes) (RefusesWorldBytes bytes) NeverBad c.world_json.result c.of_bytes.result c.world_json.ensures.listed c.world_json.ensures.refused c.of_bytes.ensures)
    c.hand_out.ensures
