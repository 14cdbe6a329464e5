use Rattle.std.proofs.Common.{◌∙◌, refl, ap, sym, subst, map}
use Rattle.std.proofs.lemmas.{Bool.ltb-true, Result.on_err_weaker as on_err, Result.on_ok_weaker as on_ok}
use Rattle.std.specs.List.{flat_map}
use Rattle.wit_model.specs.Rules.{in_list}
use Rattle.print_output.specs.{OutputCall.Moves, OutputCall.Moves.nothing_moved}
use Rattle.print_grammar.specs.Calls.{nested_calls}
use Rattle.print_uses.specs.Printable.{next_package_calls}
use Rattle.print_items.specs.Shown.{shown_package}
use Rattle.print_items.proofs.Moves.{begun_on, begun_first, moved_on}
use Rattle.print_packages.proofs.PackageCalls.{nested_shown, no_nested}
use Rattle.base_lemmas.proofs.{Bools.left_of, Bools.right_of, Options.at_err}
use Rattle.print_packages.proofs.file.print_nested_packages.Goals as goal

pub print_whole_package-requires-clause-in_range : goal.print_whole_package-requires-clause-in_range
print_whole_package-requires-clause-in_range g c = ltb-true _ _ (left_of (in_list c.args.resolve.now.packages.items c.in-Some.first.now.0) _ (rw c.in-Some.ensures.cases.0 at c.requires.in_range))

pub print_more_packages-requires-clause-in_range : goal.print_more_packages-requires-clause-in_range
print_more_packages-requires-clause-in_range g c = right_of (in_list c.args.resolve.now.packages.items c.in-Some.first.now.0) _ (rw c.in-Some.ensures.cases.0 at c.requires.in_range)

pub returns-in_err-print_whole_package-clause-err : goal.returns-in_err-print_whole_package-clause-err
returns-in_err-print_whole_package-clause-err g c =
    let same = nested_shown c.args.emits_docs c.args.resolve.now c.in-Some.first.now c.in-Some.rest.now
    ∙ ap (λ ids. nested_calls c.args.emits_docs (map (shown_package c.args.resolve.now) ids)) (sym c.in-Some.ensures.cases.0) in
    at_err c.from_residual.result (begun_first (flat_map (next_package_calls c.args.emits_docs c.args.resolve.now) c.in-Some.rest.now) c.in_err-print_whole_package.ensures.err same)

pub returns-in-Some : goal.returns-in-Some
returns-in-Some g c =
    let same = nested_shown c.args.emits_docs c.args.resolve.now c.in-Some.first.now c.in-Some.rest.now
    ∙ ap (λ ids. nested_calls c.args.emits_docs (map (shown_package c.args.resolve.now) ids)) (sym c.in-Some.ensures.cases.0) in
    record {
      ok = on_ok c.print_more_packages.result (λ m. moved_on c.in_ok-print_whole_package.ensures.ok m same) c.print_more_packages.ensures.ok;
      err = on_err c.print_more_packages.result (λ b. begun_on c.in_ok-print_whole_package.ensures.ok b same) c.print_more_packages.ensures.err;
      memory = c.print_more_packages.ensures.memory;
    }

pub returns-clause-ok : goal.returns-clause-ok
returns-clause-ok g c =
    let view = g.O.Output.view c.args.output.now in
    subst (λ calls. Moves g.O.Output.keeps view calls view) (sym (no_nested c.args.emits_docs c.args.resolve.now c.args.ids.now c.in_default.ensures.cases)) (nothing_moved refl)
