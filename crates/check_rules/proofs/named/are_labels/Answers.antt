use Rattle.std.proofs.{Common.◌∙◌, Common.sym, Common.rules, Common.tests, lemmas.Iterator.YieldsList-from_slice, lemmas.Iterator.Search.all_from_yields_List}
use Rattle.std.proofs.lemmas.List.Folds.{list_all-map}
use Rattle.wit_model.specs.Names.{is_label}
use Rattle.check_rules.proofs.named.are_labels.Goals as goal

pub returns : goal.returns
returns g c =
    let name_of = g.T.Named.name_of in
    let each = all_from_yields_List (λ x. is_label (name_of x)) _ _ c.all.result c.all.ensures.ran (YieldsList-from_slice c.args.members.now c.iter.ensures.rest) (λ x b q k. search (rules, tests)) in
    each ∙ sym (list_all-map is_label name_of c.args.members.now)
