use Rattle.std.proofs.Common.{◌≡◌, ap, ◌∙◌, ◌<◌, set, arith}
use Rattle.check_rules.specs.Places.{joined, shown_entry}
use Rattle.check_rules.specs.declared.shown.Shown.TheVariants as shown
use Rattle.check_rules.proofs.PlaceTable.{marked, unmarked}
use Rattle.check_rules.proofs.shown.mark.Goals as goal

pub returns-then-number-table : goal.returns-then-number-table
returns-then-number-table c =
    let xs = c.args.table.now in
    let entry : c.once_more.result ≡ joined (shown_entry xs c.args.number) (shown.Once c.args.home) = c.once_more.ensures ∙ ap (λ s. joined s (shown.Once c.args.home)) c.shown_at.ensures
    in
    λ n h. ap (λ s. shown_entry (set xs c.args.number s) n) entry ∙ marked xs c.args.number n c.args.home c.if-number-table.true

pub returns-else-number-table : goal.returns-else-number-table
returns-else-number-table c = λ n h. let before : n < c.args.number = omega arith in unmarked c.args.table.now c.args.number n c.args.home before
