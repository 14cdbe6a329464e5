use Rattle.std.proofs.{Common.◌∙◌, Common.sym, Common.append_assoc, lemmas.List.Folds.list_all-map}
use Rattle.wit_model.specs.Lookup.{is_async}
use Rattle.print_items.specs.{Shown.shown_param, ItemCalls.written_params}
use Rattle.print_grammar.specs.{Calls.async_calls, WellNamed.is_well_param}
use Rattle.print_items.proofs.Driven.{driven, driven_on}
use Rattle.base_lemmas.proofs.Bools.{left_of}
use Rattle.print_items.proofs.function.write_signature.Goals as goal

pub write_params_and_result-requires-clause-params : goal.write_params_and_result-requires-clause-params
write_params_and_result-requires-clause-params g c =
    rw c.written_params.ensures (sym (list_all-map is_well_param (shown_param c.args.resolve.now) (written_params c.args.function.now)) ∙ left_of _ _ c.requires.well)

pub returns-clause-calls : goal.returns-clause-calls
returns-clause-calls g c = driven_on (driven c.write_async.ensures.calls c.keyword.ensures.calls) (rw c.written_params.ensures at c.write_params_and_result.ensures.calls)
    (append_assoc (async_calls (is_async c.args.function.now.kind)) _ _)
