use Rattle.std.proofs.Common.{sym}
use Rattle.base_lemmas.proofs.Options.{err_said as if-err}
use Rattle.witc_refusals.specs.Numbers.{plain_why}
use Rattle.witc_written.specs.Carried.{AttachesIfThere, RefusesAttached}
use Rattle.witc_ffi.specs.Answers.{IsAttached, LacksPart, RefusesAttachedTo, no_encoding, no_number, no_world}
use Rattle.witc_ffi.proofs.OutcomeLaws.{if-there, of-bad}
use Rattle.witc_ffi.proofs.calls.attached_name.Goals as goal

pub returns-in-Some : goal.returns-in-Some
returns-in-Some c =
    let module_ = c.args.«module».now in
    let bytes = c.args.bytes.now in
    let name = c.args.name.now in
    let canonical = c.args.canonical in
    let e = c.in-Some.encoding in
    if-there (IsAttached module_ bytes name c.args.encoding canonical) (RefusesAttachedTo module_ bytes name c.args.encoding canonical) (LacksPart bytes name c.args.encoding) name
    (AttachesIfThere module_ bytes name e canonical) c.attach.result c.of_world.result (λ text is. record { is_text = c.requires; said = e; is = sym c.in-Some.ensures; attaches = is })
    (λ is. no_world c.requires e (sym c.in-Some.ensures) is) c.attach.ensures.attached
    (if-err (RefusesAttached module_ bytes name e canonical) (RefusesAttachedTo module_ bytes name c.args.encoding canonical)
    (λ error is. record { is_text = c.requires; said = e; is = sym c.in-Some.ensures; refuses = is })
    c.attach.result c.attach.ensures.refused) c.of_world.ensures

pub returns-in-None : goal.returns-in-None
returns-in-None c =
    let module_ = c.args.«module».now in
    let bytes = c.args.bytes.now in
    let name = c.args.name.now in
    let canonical = c.args.canonical in
    of-bad (IsAttached module_ bytes name c.args.encoding canonical) (RefusesAttachedTo module_ bytes name c.args.encoding canonical) (LacksPart bytes name c.args.encoding) no_encoding (plain_why 19)
    c.no_encoding.result (no_number c.requires (sym c.in-None.ensures)) c.no_encoding.ensures
