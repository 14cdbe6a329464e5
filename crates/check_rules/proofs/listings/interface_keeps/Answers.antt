use Rattle.std.proofs.{Common.sym, Common.◌∙◌, lemmas.List.Folds.list_all-map}
use Rattle.indexmap.specs.IndexMap.{values}
use Rattle.wit_model.specs.{Rules.is_named_of, Valid.as_interface, Checks.listings}
use Rattle.check_rules.proofs.Found.{said}
use Rattle.check_rules.proofs.listings.interface_keeps.Goals as goal

pub returns : goal.returns
unfolding listings
returns c = said (listings.interface_ c.args.resolve.now) _ _ _ _ c.requires c.index.ensures
    (c.types_belong.ensures ∙ sym (list_all-map (is_named_of c.args.resolve.now (as_interface c.args.number)) (λ id. id.0) (values c.index.result.now.types)))
