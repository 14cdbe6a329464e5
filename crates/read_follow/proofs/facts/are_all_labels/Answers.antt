use Rattle.std.proofs.{Common.rules, Common.tests, lemmas.Iterator.YieldsList-from_slice, lemmas.Iterator.Search.all_from_yields_List}
use Rattle.wit_model.specs.Names.{is_label}
use Rattle.read_follow.proofs.facts.are_all_labels.Goals as goal

pub returns : goal.returns
returns c = all_from_yields_List (λ l. is_label l.0.now) _ _ c.all.result c.all.ensures.ran (YieldsList-from_slice c.args.labels.now c.iter.ensures.rest) (λ x b q k. search (rules, tests))
