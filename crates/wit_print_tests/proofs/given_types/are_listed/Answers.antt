use Rattle.std.proofs.{Common.rules, Common.tests, lemmas.Iterator.YieldsList-from_slice, lemmas.Iterator.Search.all_from_yields_List}
use Rattle.wit_print.specs.UseGroups.{is_listed_type}
use Rattle.wit_model.specs.declared.model.TypeOwner.TheVariants as owner
use Rattle.wit_print_tests.proofs.given_types.are_listed.Goals as goal

pub returns : goal.returns
returns c =
    all_from_yields_List (λ t. is_listed_type c.args.resolve.now (owner.Interface c.args.interface) (record { name = t.0.now; id = t.1 })) _ _ c.all.result c.all.ensures.ran
    (YieldsList-from_slice c.args.types.now c.iter.ensures.rest) (λ x b q k. search (rules, tests))
