use Rattle.std.proofs.Common.{◌≡◌, sym, ap, ◌∙◌, true, false, nat_eq, rules}
use Rattle.std.specs.List.{list_any}
use Rattle.indexmap.specs.IndexMap.{values}
use Rattle.wit_model.specs.ItemOrders.{holds, shown_after, uses_are_shown}
use Rattle.wit_model.proofs.Shown.{imports_first, exports_next}
use Rattle.check_rules.proofs.item_orders.uses_are_shown.Goals as goal

pub returns-then-not-branch : goal.returns-then-not-branch
returns-then-not-branch c =
    let r = c.args.resolve.now in
    let w = c.args.world.now in
    let none : holds c.new-shown.result ≡ (λ n. false) = λ i n. list_any (nat_eq n) (c.new-shown.ensures.empty i) in
    let fails : c.in_ok-items_are_ready.field-0 ≡ false = search rules in
    sym (imports_first r (λ n. false) w (sym (ap (λ s. uses_are_shown r s (values w.imports)) none) ∙ (sym c.in_ok-items_are_ready.ensures.ready ∙ fails)))

pub returns : goal.returns
returns c =
    let r = c.args.resolve.now in
    let w = c.args.world.now in
    let none : holds c.new-shown.result ≡ (λ n. false) = λ i n. list_any (nat_eq n) (c.new-shown.ensures.empty i) in
    let passes : c.in_ok-items_are_ready.field-0 ≡ true = search rules in
    c.in_ok-ready.ensures.ready
    ∙ exports_next r (λ n. false) (holds c.items_are_ready.new.shown) w (sym (ap (λ s. uses_are_shown r s (values w.imports)) none) ∙ (sym c.in_ok-items_are_ready.ensures.ready ∙ passes))
    (λ n. c.in_ok-items_are_ready.ensures.shown passes n ∙ ap (λ s. shown_after (values w.imports) s n) none)
