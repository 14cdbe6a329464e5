use Rattle.std.proofs.{Common.sym, Common.◌∙◌, Common.rules, Common.tests, lemmas.Iterator.YieldsList-from_slice, lemmas.Iterator.Search.all_from_yields_List}
use Rattle.std.proofs.lemmas.List.Folds.{list_all-map}
use Rattle.plan_meaning.specs.NumberedRules.{is_parameter_type}
use Rattle.read_rules.specs.Tables.{known_in, param_of}
use Rattle.read_rules.proofs.parts.are_parameter_types.Goals as goal

pub returns : goal.returns
returns c = all_from_yields_List (λ x. is_parameter_type c.args.place (known_in c.args.tables.now x.1)) _ _ c.all.result c.all.ensures.ran (YieldsList-from_slice c.args.params.now c.iter.ensures.rest)
    (λ x b q k. search (rules, tests)) ∙ sym (list_all-map (λ x. is_parameter_type c.args.place (known_in c.args.tables.now x.1)) param_of c.args.params.now)
