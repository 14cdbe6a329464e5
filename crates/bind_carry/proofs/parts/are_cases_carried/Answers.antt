use Rattle.std.proofs.{Common.rules, Common.tests, lemmas.Iterator.Search.all_from_yields_List, lemmas.Iterator.YieldsList-from_slice}
use Rattle.bind_union.specs.Views.{optional_numbers}
use Rattle.bind_carry.specs.Fates.{are_carried}
use Rattle.bind_carry.proofs.parts.are_cases_carried.Goals as goal

pub returns : goal.returns
returns c = all_from_yields_List (λ f. are_carried c.args.fates.now (optional_numbers f.ty)) _ _ c.all.result c.all.ensures.ran (YieldsList-from_slice c.args.cases.now c.iter.ensures.rest)
    (λ x b q k. search (rules, tests))
