use Rattle.wit_component.specs.DecodedWorlds.{RefusesWorldBytes}
use Rattle.witc_written.specs.Worlds.{PrintsWorld}
use Rattle.witc_ffi.proofs.OutcomeLaws.{passes-within}
use Rattle.witc_ffi.proofs.witc_world_text_within_slice.Goals as goal

pub returns : goal.returns
returns c =
    let bytes = c.args.bytes.now in
    passes-within (PrintsWorld bytes) (RefusesWorldBytes bytes) c.args.most c.world_text_within.result c.of_text_within.result c.hand_out.result c.hand_out.new.answer.text c.hand_out.new.why
    c.world_text_within.ensures.within c.world_text_within.ensures.refused c.of_text_within.ensures c.hand_out.ensures
