use Rattle.std.proofs.Common.{◌≡◌, ◌∙◌, sym, ◌++◌, filter_map, rules}
use Rattle.indexmap.specs.IndexMap.{values}
use Rattle.wit_model.specs.{Checks.values_of, Checks.all_values, Valid.item_function}
use Rattle.wit_model.proofs.Functions.{of_items}
use Rattle.check_rules.proofs.functions.world_numbers.Goals as goal

pub returns : goal.returns
returns c =
    let w = c.args.world.now in
    let pushed : c.push_items-2.new.numbers.items ≡ all_values (filter_map item_function (values w.imports)) ++ all_values (filter_map item_function (values w.exports)) = search rules in
    pushed ∙ sym (of_items values_of (values w.imports) (values w.exports))
