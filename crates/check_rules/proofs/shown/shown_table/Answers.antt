use Rattle.std.proofs.Common.{rules, ◌≡◌, ◌∙◌, ap, ◌<◌, length, drop, replicate, arith}
use Rattle.std.proofs.lemmas.List.{take_at, length-replicate}
use Rattle.check_rules.specs.declared.shown.Shown.TheVariants as shown
use Rattle.check_rules.specs.Places.{is_once_in, joined, shown_by_all, shown_entry}
use Rattle.check_rules.proofs.PlaceTable.{never_entry, found_inline}
use Rattle.check_rules.proofs.shown.shown_table.Goals as goal

pub returns : goal.returns
returns c =
    let r = c.args.resolve.now in
    let marked = c.mark_worlds.new.table in
    let made : c.in_ok-table.table.items ≡ replicate c.len.result shown.Never = c.in_ok-table.ensures in
    let lent : c.deref_mut.result.now ≡ c.in_ok-table.table.items = search rules in
    let sized : c.len.result ≡ length r.interfaces.items = search rules in
    let long : length marked ≡ c.in_ok-table.table.len = search rules in
    λ n h p.
    let within : n < length c.deref_mut.result.now = omega (arith, h, sized, ap length lent, ap length made, length-replicate c.len.result shown.Never) in
    let entry = c.mark_worlds.ensures n within in
    let before : shown_entry c.deref_mut.result.now n ≡ shown.Never = ap (λ xs. shown_entry xs n) (lent ∙ made) ∙ never_entry c.len.result n in
    let worlds : c.deref.result.now ≡ r.worlds.items = c.deref.ensures.value in
    ap (λ xs. is_once_in p (shown_entry xs n)) (take_at marked (drop (length marked) c.in_ok-table.table.items) c.in_ok-table.table.len long)
    ∙ (ap (is_once_in p) (entry ∙ (ap (λ s. joined s (shown_by_all n c.deref.result.now)) before ∙ ap (shown_by_all n) worlds)) ∙ found_inline n p r.worlds.items)
