use Rattle.wit_component.specs.Decoded.{RefusesBytes}
use Rattle.witc_texts.specs.Printed.{PrintsBytes}
use Rattle.witc_ffi.proofs.OutcomeLaws.{passes-within}
use Rattle.witc_ffi.proofs.witc_package_text_within_slice.Goals as goal

pub returns : goal.returns
returns c =
    let bytes = c.args.bytes.now in
    passes-within (PrintsBytes bytes) (RefusesBytes bytes) c.args.most c.package_text_within.result c.of_text_within.result c.hand_out.result c.hand_out.new.answer.text c.hand_out.new.why
    c.package_text_within.ensures.within c.package_text_within.ensures.refused c.of_text_within.ensures c.hand_out.ensures
