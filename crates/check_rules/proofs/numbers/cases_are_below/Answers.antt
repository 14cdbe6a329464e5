use Rattle.std.proofs.Common.{◌∙◌, sym, rules, tests, nat_lt, option_to_list, filter_map}
use Rattle.std.proofs.lemmas.{Iterator.YieldsList-from_slice, Iterator.Search.all_from_yields_List}
use Rattle.std.specs.List.{list_all}
use Rattle.wit_model.specs.Types.{number_of}
use Rattle.check_rules.proofs.Below.{given_cases}
use Rattle.check_rules.proofs.numbers.cases_are_below.Goals as goal

pub returns : goal.returns
returns c = all_from_yields_List (λ x. list_all (λ m. nat_lt m c.args.limit) (filter_map number_of (option_to_list x.ty))) _ _ c.all.result c.all.ensures.ran
    (YieldsList-from_slice c.args.cases.now c.iter.ensures.rest) (λ x b q k. search (rules, tests)) ∙ sym (given_cases (λ m. nat_lt m c.args.limit) c.args.cases.now)
