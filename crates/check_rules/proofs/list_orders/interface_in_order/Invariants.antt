use Rattle.std.proofs.Common.{◌≡◌, ◌+◌, length}
use Rattle.indexmap.specs.IndexMap.{values, index_map_len}
use Rattle.wit_model.specs.{Rules.each_from, Checks.entry_of, Checks.stands_in_order}
use Rattle.check_rules.proofs.list_orders.interface_in_order.Given as goal

abbrev pub invariant-loop-id : goal.invariant-loop-id
invariant-loop-id l = record {
  counted : l.place + length l.id-iterator ≡ index_map_len l.interface.types;
  same : each_from (λ p id. stands_in_order l.resolve (entry_of l.table) p id.0) l.place l.id-iterator ≡ each_from (λ p id. stands_in_order l.resolve (entry_of l.table) p id.0) 0
      (values l.interface.types);
}
