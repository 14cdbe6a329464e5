use Rattle.std.specs.Prelude.{ℕ, [], Vec}
use Rattle.std.specs.declared.alloc.Global.{Global}
use Rattle.witc_texts.specs.Printed.{IsTextOf, PrintsBytes}
use Rattle.witc_texts.proofs.packages.print.Goals as goal
use Rattle.base_lemmas.proofs.Options.{if_ok as if-ok}

pub returns-clause-printed : goal.returns-clause-printed
returns-clause-printed c =
    let r = c.in_ok-resolve.resolve in
    let id = c.in_ok-resolve.id in
    if-ok (λ (text : Vec ℕ Global). IsTextOf r id [] text.items) (λ (text : Vec ℕ Global). PrintsBytes c.args.bytes.now text.items)
    (λ text is. record { resolve = r; id = id; decoded = c.in_ok-resolve.ensures.decoded; order = c.in_ok-resolve.ensures.order; is_text = is }) c.text_of_package.result c.text_of_package.ensures.text
