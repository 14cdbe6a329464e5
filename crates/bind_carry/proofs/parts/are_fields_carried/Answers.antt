use Rattle.std.proofs.{Common.rules, Common.tests, lemmas.Iterator.Search.all_from_yields_List, lemmas.Iterator.YieldsList-from_slice}
use Rattle.bind_union.specs.Views.{type_numbers}
use Rattle.bind_carry.specs.Fates.{are_carried}
use Rattle.bind_carry.proofs.parts.are_fields_carried.Goals as goal

pub returns : goal.returns
returns c = all_from_yields_List (λ f. are_carried c.args.fates.now (type_numbers f.ty)) _ _ c.all.result c.all.ensures.ran (YieldsList-from_slice c.args.fields.now c.iter.ensures.rest)
    (λ x b q k. search (rules, tests))
