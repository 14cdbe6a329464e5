use Rattle.std.specs.Prelude.{[]}
use Rattle.base_lemmas.proofs.Options.{if_ok as if-ok}
use Rattle.witc_texts.specs.Printed.{IsTextOf, PrintsBytes}
use Rattle.witc_within.specs.Within.{TextWithin}
use Rattle.witc_within.proofs.WithinLaws.{lifted}
use Rattle.witc_within.proofs.texts.package_text_within.Goals as goal

pub returns-clause-within : goal.returns-clause-within
returns-clause-within c =
    let r = c.in_ok-resolve.resolve in
    let id = c.in_ok-resolve.id in
    let most = c.args.most in
    if-ok (TextWithin (IsTextOf r id []) most) (TextWithin (PrintsBytes c.args.bytes.now) most)
    (λ w within. lifted (IsTextOf r id []) (PrintsBytes c.args.bytes.now)
    (λ text is. record { resolve = r; id = id; decoded = c.in_ok-resolve.ensures.decoded; order = c.in_ok-resolve.ensures.order; is_text = is }) most w within)
    c.text_within.result c.text_within.ensures.within
