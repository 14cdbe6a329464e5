use Rattle.std.proofs.{Common.◌∙◌, Common.sym, lemmas.List.Folds.list_all-map}
use Rattle.wit_model.specs.Names.{is_label}
use Rattle.print_items.specs.Shown.{shown_resource_member}
use Rattle.print_grammar.specs.WellNamed.{is_well_resource_member}
use Rattle.base_lemmas.proofs.Bools.{right_of}
use Rattle.print_items.proofs.resource.write_resource.Goals as goal

pub write_resource_body-requires-clause-well : goal.write_resource_body-requires-clause-well
write_resource_body-requires-clause-well g c =
    sym (list_all-map is_well_resource_member (λ f. shown_resource_member c.args.resolve.now f.now) c.args.functions.now) ∙ right_of (is_label c.args.name.now) _ c.requires.well
