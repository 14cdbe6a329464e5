use Rattle.std.proofs.{Common.◌++◌, Common.◌&&◌, Common.◌∙◌, Common.ap, lemmas.Result.on_err_weaker as on_err, lemmas.Result.on_ok_weaker as on_ok}
use Rattle.std.specs.{Prelude.codes, List.flat_map}
use Rattle.wit_model.specs.Rules.{has_items}
use Rattle.print_uses.specs.Printable.{entry_calls, printed_imports}
use Rattle.print_items.proofs.Moves.{Moves-append, Begins-append, Begins-more}
use Rattle.base_lemmas.proofs.Options.{at_err}
use Rattle.print_grammar.specs.Calls.{line_after_calls}
use Rattle.print_packages.proofs.items.print_world_body.Goals as goal

pub returns-in_err-has_imports-clause-err : goal.returns-in_err-has_imports-clause-err
returns-in_err-has_imports-clause-err g c =
    let w = c.args.world.now in
    let exported = flat_map (entry_calls c.args.emits_docs c.args.resolve.now c.args.here (codes "export")) w.exports.entries in
    at_err c.from_residual.result (Begins-more g.O.Output.keeps (line_after_calls (printed_imports c.args.resolve.now c.args.here c.args.id w && has_items w.exports.entries) ++ exported)
    c.in_err-has_imports.ensures.err)

pub returns-in_err-print_line_between-clause-err : goal.returns-in_err-print_line_between-clause-err
returns-in_err-print_line_between-clause-err g c =
    let w = c.args.world.now in
    let exported = flat_map (entry_calls c.args.emits_docs c.args.resolve.now c.args.here (codes "export")) w.exports.entries in
    let is = c.both-is_between.ensures ∙ ap (λ b. b && c.has_items.result) c.in_ok-has_imports.ensures.printed ∙ ap (λ b. printed_imports c.args.resolve.now c.args.here c.args.id w && b)
    c.has_items.ensures in
    at_err c.from_residual-in_err-print_line_between.result
    (Begins-append g.O.Output.keeps c.in_ok-has_imports.ensures.ok (Begins-more g.O.Output.keeps exported (rw is at c.in_err-print_line_between.ensures.err)))

pub returns : goal.returns
returns g c =
    let is = c.both-is_between.ensures ∙ ap (λ b. b && c.has_items.result) c.in_ok-has_imports.ensures.printed
    ∙ ap (λ b. printed_imports c.args.resolve.now c.args.here c.args.id c.args.world.now && b) c.has_items.ensures in
    let moved = rw is at c.in_ok-print_line_between.ensures.ok in
    record {
      ok = on_ok c.print_exports.result (λ m. Moves-append g.O.Output.keeps c.in_ok-has_imports.ensures.ok (Moves-append g.O.Output.keeps moved m)) c.print_exports.ensures.ok;
      err = on_err c.print_exports.result (λ b. Begins-append g.O.Output.keeps c.in_ok-has_imports.ensures.ok (Begins-append g.O.Output.keeps moved b)) c.print_exports.ensures.err;
      memory = c.print_exports.ensures.memory;
    }
