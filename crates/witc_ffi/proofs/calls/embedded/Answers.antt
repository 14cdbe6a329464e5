use Rattle.witc_refusals.specs.Numbers.{plain_why}
use Rattle.witc_ffi.specs.Answers.{IsEmbedded, LacksPart, RefusesEmbeddedIn, is_asked, no_name, not_utf8}
use Rattle.witc_ffi.proofs.OutcomeLaws.{of-bad}
use Rattle.witc_ffi.proofs.calls.embedded.Goals as goal

pub returns-in_default : goal.returns-in_default
returns-in_default c =
    let bytes = c.args.bytes.now in
    let name = c.args.name.now in
    let canonical = is_asked c.args.canonical in
    of-bad (IsEmbedded bytes name c.args.encoding canonical) (RefusesEmbeddedIn bytes name c.args.encoding canonical) (LacksPart bytes name c.args.encoding) not_utf8 (plain_why 18) c.bad.result
    (no_name c.in_default.ensures) c.bad.ensures
