use Rattle.std.proofs.{Common.rules, Common.tests, lemmas.Iterator.YieldsList-from_slice, lemmas.Iterator.Search.all_from_yields_List}
use Rattle.wit_model.specs.Rules.{in_list}
use Rattle.case_calls.proofs.calls.are_packages.Goals as goal

pub returns : goal.returns
returns c = all_from_yields_List (λ other. in_list c.args.resolve.now.packages.items other.0) _ _ c.all.result c.all.ensures.ran
    (YieldsList-from_slice c.args.packages.now c.iter.ensures.rest) (λ x b q k. search (rules, tests))
