use Rattle.std.proofs.Common.{◌≡◌, ◌+◌, length}
use Rattle.indexmap.specs.IndexMap.{values, index_map_len}
use Rattle.wit_model.specs.{Rules.each_from, Rules.passes, Checks.entry_of, ItemOrders.reaches_within, Valid.item_function}
use Rattle.check_rules.proofs.item_orders.functions_stand.Given as goal

abbrev pub invariant-loop-item : goal.invariant-loop-item
invariant-loop-item l = record {
  counted : l.place + length l.item-iterator ≡ index_map_len l.world.imports;
  same : each_from (λ p item. passes (reaches_within (entry_of l.table) p) (item_function item)) l.place l.item-iterator ≡ each_from
      (λ p item. passes (reaches_within (entry_of l.table) p) (item_function item)) 0 (values l.world.imports);
}
