use Rattle.std.proofs.Common.{◌≡◌, ◌+◌, length}
use Rattle.indexmap.specs.IndexMap.{values, index_map_len}
use Rattle.wit_model.specs.{Rules.each_from, Rules.passes, Rules.item_type, Checks.entry_of, Checks.stands_in_order}
use Rattle.check_rules.proofs.list_orders.world_in_order.Given as goal

abbrev pub invariant-loop-item : goal.invariant-loop-item
invariant-loop-item l = record {
  counted : l.place + length l.item-iterator ≡ index_map_len l.world.imports;
  same : each_from (λ p item. passes (stands_in_order l.resolve (entry_of l.table) p) (item_type item)) l.place l.item-iterator ≡ each_from
      (λ p item. passes (stands_in_order l.resolve (entry_of l.table) p) (item_type item)) 0 (values l.world.imports);
}
