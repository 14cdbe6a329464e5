use Rattle.std.proofs.Common.{◌≡◌, ℕ, ◌<◌, length}
use Rattle.std.specs.List.{count_by}
use Rattle.indexmap.specs.IndexMap.{values}
use Rattle.wit_model.specs.{Rules.is_id, Uses.item_interface}
use Rattle.check_rules.specs.Places.{joined, shown_entry, times}
use Rattle.check_rules.proofs.shown.mark_items.Given as goal

-- what is left to mark
abbrev pub invariant-loop-item : goal.invariant-loop-item
invariant-loop-item l = (n : ℕ) → n < length l.fn.table →
    joined (shown_entry l.table n) (times (count_by (λ i. is_id n (item_interface i)) l.item-iterator) l.home)
    ≡ joined (shown_entry l.fn.table n) (times (count_by (λ i. is_id n (item_interface i)) (values l.items)) l.home)
