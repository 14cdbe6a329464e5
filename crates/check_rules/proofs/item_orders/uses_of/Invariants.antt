use Rattle.std.proofs.Common.{◌≡◌, ◌||◌, ℕ}
use Rattle.std.specs.List.{list_any}
use Rattle.indexmap.specs.IndexMap.{values}
use Rattle.wit_model.specs.ItemOrders.{holds, is_other_use}
use Rattle.check_rules.proofs.item_orders.uses_of.Given as goal

abbrev pub invariant-loop-id : goal.invariant-loop-id
invariant-loop-id l = (q : ℕ) → (list_any (λ id. is_other_use l.resolve l.own id.0 q) l.id-iterator || holds l.uses q) ≡ list_any (λ id. is_other_use l.resolve l.own id.0 q) (values l.interface.types)
