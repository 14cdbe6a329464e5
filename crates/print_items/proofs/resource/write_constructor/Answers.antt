use Rattle.std.proofs.{Common.sym, Common.◌∙◌, lemmas.List.Folds.list_all-map}
use Rattle.print_items.specs.Shown.{shown_param}
use Rattle.print_grammar.specs.WellNamed.{is_well_param}
use Rattle.print_items.proofs.Constructors.{constructor_params}
use Rattle.print_items.proofs.resource.write_constructor.Goals as goal

pub write_params_and_result-requires-clause-params : goal.write_params_and_result-requires-clause-params
write_params_and_result-requires-clause-params g c = rw c.deref.ensures.value (sym (list_all-map is_well_param (shown_param c.args.resolve.now) c.args.function.now.params.items)
    ∙ (rw (constructor_params c.args.resolve.now c.args.id c.args.function.now c.requires.kind) at c.requires.params))
