use Rattle.witc_ffi.specs.Answers.{AreAlike, LacksEither, RefusesAlike}
use Rattle.witc_ffi.proofs.OutcomeLaws.{passes}
use Rattle.witc_ffi.proofs.witc_same_world_slices.Goals as goal

pub returns : goal.returns
returns c =
    let bytes = c.args.bytes.now in
    let name = c.args.name.now in
    let other = c.args.other.now in
    let other_name = c.args.other_name.now in
    passes (AreAlike bytes name other other_name) (RefusesAlike bytes name other other_name) (LacksEither bytes name other other_name) c.likened.result c.hand_out.result c.hand_out.new.answer.text
    c.hand_out.new.why
    c.likened.ensures c.hand_out.ensures
