use Rattle.std.proofs.Common.{sym}
use Rattle.base_lemmas.proofs.Options.{err_said as if-err}
use Rattle.witc_refusals.specs.Numbers.{plain_why}
use Rattle.witc_written.specs.Carried.{EmbedsIfThere, RefusesEmbedded}
use Rattle.witc_ffi.specs.Answers.{IsEmbedded, LacksPart, RefusesEmbeddedIn, no_encoding, no_number, no_world}
use Rattle.witc_ffi.proofs.OutcomeLaws.{if-there, of-bad}
use Rattle.witc_ffi.proofs.calls.embedded_name.Goals as goal

pub returns-in-Some : goal.returns-in-Some
returns-in-Some c =
    let bytes = c.args.bytes.now in
    let name = c.args.name.now in
    let number = c.args.encoding in
    let canonical = c.args.canonical in
    let e = c.in-Some.encoding in
    if-there (IsEmbedded bytes name number canonical) (RefusesEmbeddedIn bytes name number canonical) (LacksPart bytes name number) name (EmbedsIfThere bytes name e canonical)
    c.embed.result c.of_world.result (λ text is. record { is_text = c.requires; said = e; is = sym c.in-Some.ensures; embeds = is }) (λ is. no_world c.requires e (sym c.in-Some.ensures) is)
    c.embed.ensures.embedded (if-err (RefusesEmbedded bytes name canonical) (RefusesEmbeddedIn bytes name number canonical)
    (λ error is. record { is_text = c.requires; said = e; is = sym c.in-Some.ensures; refuses = is })
    c.embed.result c.embed.ensures.refused) c.of_world.ensures

pub returns-in-None : goal.returns-in-None
returns-in-None c =
    let bytes = c.args.bytes.now in
    let name = c.args.name.now in
    let number = c.args.encoding in
    let canonical = c.args.canonical in
    of-bad (IsEmbedded bytes name number canonical) (RefusesEmbeddedIn bytes name number canonical) (LacksPart bytes name number) no_encoding (plain_why 19) c.no_encoding.result
    (no_number c.requires (sym c.in-None.ensures)) c.no_encoding.ensures
