use Rattle.std.proofs.Common.{◌∙◌, sym, rules, tests, nat_lt, option_to_list}
use Rattle.std.proofs.lemmas.{Iterator.YieldsList-from_slice, Iterator.Search.all_from_yields_List}
use Rattle.std.specs.List.{list_all}
use Rattle.wit_model.specs.Types.{number_of}
use Rattle.wit_model.proofs.Lists.{list_all_mapped}
use Rattle.check_rules.proofs.numbers.params_are_below.Goals as goal

pub returns : goal.returns
returns c = all_from_yields_List (λ p. list_all (λ m. nat_lt m c.args.limit) (option_to_list (number_of p.ty))) _ _ c.all.result c.all.ensures.ran
    (YieldsList-from_slice c.args.params.now c.iter.ensures.rest) (λ x b q k. search (rules, tests)) ∙ sym (list_all_mapped (λ m. nat_lt m c.args.limit) number_of (λ p. p.ty) c.args.params.now)
