use Rattle.std.proofs.Common.{◌≡◌, ◌++◌, filter_map}
use Rattle.indexmap.specs.IndexMap.{values}
use Rattle.wit_model.specs.{Checks.all_values, Valid.item_function}
use Rattle.check_rules.proofs.functions.push_items.Given as goal

abbrev pub invariant-loop-item : goal.invariant-loop-item
invariant-loop-item l = l.numbers.items ++ all_values (filter_map item_function l.item-iterator) ≡ l.initial.numbers.items ++ all_values (filter_map item_function (values l.items))
