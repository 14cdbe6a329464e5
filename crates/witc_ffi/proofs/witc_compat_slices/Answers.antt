use Rattle.witc_ffi.specs.Answers.{IsCompatible, LacksWorld, RefusesWorlds}
use Rattle.witc_ffi.proofs.OutcomeLaws.{passes}
use Rattle.witc_ffi.proofs.witc_compat_slices.Goals as goal

pub returns : goal.returns
returns c =
    let bytes = c.args.bytes.now in
    let prev = c.args.prev.now in
    let next = c.args.next.now in
    passes (IsCompatible bytes prev next) (RefusesWorlds bytes prev next) (LacksWorld bytes prev next) c.compared.result c.hand_out.result c.hand_out.new.answer.text c.hand_out.new.why
    c.compared.ensures c.hand_out.ensures
