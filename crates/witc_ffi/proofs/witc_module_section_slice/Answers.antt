use Rattle.witc_alike.specs.Carried.{RefusesWalk}
use Rattle.witc_ffi.specs.Answers.{IsSection, LacksSection}
use Rattle.witc_ffi.proofs.OutcomeLaws.{passes}
use Rattle.witc_ffi.proofs.witc_module_section_slice.Goals as goal

pub returns : goal.returns
returns c =
    let bytes = c.args.bytes.now in
    let number = c.args.number in
    passes (IsSection bytes number) (RefusesWalk bytes number) (LacksSection bytes number) c.section.result c.hand_out.result c.hand_out.new.answer.text c.hand_out.new.why
    c.section.ensures c.hand_out.ensures
