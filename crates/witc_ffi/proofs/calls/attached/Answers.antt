use Rattle.witc_refusals.specs.Numbers.{plain_why}
use Rattle.witc_ffi.specs.Answers.{IsAttached, LacksPart, RefusesAttachedTo, is_asked, no_name, not_utf8}
use Rattle.witc_ffi.proofs.OutcomeLaws.{of-bad}
use Rattle.witc_ffi.proofs.calls.attached.Goals as goal

pub returns-in-None : goal.returns-in-None
returns-in-None c =
    let module_ = c.args.«module».now in
    let bytes = c.args.bytes.now in
    let name = c.args.name.now in
    let canonical = is_asked c.args.canonical in
    of-bad (IsAttached module_ bytes name c.args.encoding canonical) (RefusesAttachedTo module_ bytes name c.args.encoding canonical) (LacksPart bytes name c.args.encoding) not_utf8 (plain_why 18)
    c.bad.result (no_name c.in-None.ensures) c.bad.ensures
