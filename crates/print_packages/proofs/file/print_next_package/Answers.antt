use Rattle.std.proofs.{Common.false, lemmas.Result.on_err_weaker as on_err, lemmas.Result.on_ok_weaker as on_ok}
use Rattle.print_grammar.specs.Calls.{package_calls}
use Rattle.print_items.specs.Shown.{shown_package}
use Rattle.print_items.proofs.Moves.{Moves-append, Begins-append, Begins-more}
use Rattle.base_lemmas.proofs.Options.{at_err}
use Rattle.print_packages.proofs.file.print_next_package.Goals as goal

pub returns-in_err-print_two_line_ends-clause-err : goal.returns-in_err-print_two_line_ends-clause-err
returns-in_err-print_two_line_ends-clause-err g c =
    at_err c.from_residual.result (Begins-more g.O.Output.keeps (package_calls c.args.emits_docs false (shown_package c.args.resolve.now c.args.id)) c.in_err-print_two_line_ends.ensures.err)

pub returns-clause-ok : goal.returns-clause-ok
returns-clause-ok g c = on_ok c.print_whole_package.result (λ m. Moves-append g.O.Output.keeps c.in_ok-print_two_line_ends.ensures.ok m) c.print_whole_package.ensures.ok

pub returns-clause-err : goal.returns-clause-err
returns-clause-err g c = on_err c.print_whole_package.result (λ b. Begins-append g.O.Output.keeps c.in_ok-print_two_line_ends.ensures.ok b) c.print_whole_package.ensures.err
