use Rattle.std.proofs.Common.{◌≡◌, ℕ}
use Rattle.indexmap.specs.IndexMap.{values}
use Rattle.wit_model.specs.ItemOrders.{holds, shown_after, uses_are_shown}
use Rattle.check_rules.proofs.item_orders.items_are_ready.Given as goal

abbrev pub invariant-loop-item : goal.invariant-loop-item
invariant-loop-item l = record {
  ready : uses_are_shown l.resolve (holds l.shown) l.item-iterator ≡ uses_are_shown l.resolve (holds l.initial.shown) (values l.items);
  shown : (n : ℕ) → shown_after l.item-iterator (holds l.shown) n ≡ shown_after (values l.items) (holds l.initial.shown) n;
}
