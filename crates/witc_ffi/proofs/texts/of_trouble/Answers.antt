use Rattle.std.proofs.Common.{subst}
use Rattle.witc_read.specs.{Packages.IsTroubleOf, Packages.bytes_of, Places.names_of}
use Rattle.witc_ffi.specs.Texts.{for_two, no_text, no_text_of, text_why, two_packages_of, unencoded}
use Rattle.witc_ffi.proofs.TextLaws.{tells-bad, tells-refusal, tells-texts}
use Rattle.witc_ffi.proofs.texts.of_trouble.Goals as goal

pub returns-in-NoText : goal.returns-in-NoText
returns-in-NoText c = λ own asked trouble.
    let names = names_of c.args.texts.now in
    let texts = bytes_of c.args.texts.now in
    let n = c.in-NoText.number in
    tells-bad names texts own (no_text_of names n) (text_why 18 n) c.no_text.result (no_text n asked (subst (IsTroubleOf texts own) c.in-NoText.is trouble)) c.no_text.ensures

pub returns-in-Apart : goal.returns-in-Apart
returns-in-Apart c = λ own asked trouble.
    let names = names_of c.args.texts.now in
    let texts = bytes_of c.args.texts.now in
    let n = c.in-Apart.number in
    tells-texts names texts own (two_packages_of names n) (text_why 24 n) c.two_packages.result (for_two n asked (subst (IsTroubleOf texts own) c.in-Apart.is trouble))
    c.two_packages.ensures

pub returns-in-Bytes : goal.returns-in-Bytes
returns-in-Bytes c = λ own asked trouble.
    let names = names_of c.args.texts.now in
    let texts = bytes_of c.args.texts.now in
    tells-refusal names texts own c.in-Bytes.error c.refusal.result (unencoded c.in-Bytes.error asked (subst (IsTroubleOf texts own) c.in-Bytes.is trouble).1) c.refusal.ensures
