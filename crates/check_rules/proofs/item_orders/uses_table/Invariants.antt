use Rattle.std.proofs.Common.{◌≡◌, ℕ, ◌<◌, length}
use Rattle.wit_model.specs.{Uses.has, Uses.direct_deps, ItemOrders.entry_holds}
use Rattle.check_rules.proofs.item_orders.uses_table.Given as goal

abbrev pub invariant-loop-number : goal.invariant-loop-number
invariant-loop-number l = record { made : length l.table.items ≡ l.number; right : (n : ℕ) → n < l.number → (q : ℕ) → entry_holds l.table.items n q ≡ has (direct_deps l.resolve n) q }
