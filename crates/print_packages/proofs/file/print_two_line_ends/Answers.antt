use Rattle.std.proofs.{Common.[], Common.◌∷◌, lemmas.Result.on_err_weaker as on_err, lemmas.Result.on_ok_weaker as on_ok}
use Rattle.print_output.specs.OutputCall.OutputCall.{Newline}
use Rattle.print_items.proofs.Moves.{Moves-append, Begins-append, Begins-more}
use Rattle.base_lemmas.proofs.Options.{at_err}
use Rattle.print_packages.proofs.file.print_two_line_ends.Goals as goal

pub returns-in_err-print_line_end-clause-err : goal.returns-in_err-print_line_end-clause-err
returns-in_err-print_line_end-clause-err g c = at_err c.from_residual.result (Begins-more g.O.Output.keeps (Newline ∷ []) c.in_err-print_line_end.ensures.err)

pub returns-clause-ok : goal.returns-clause-ok
returns-clause-ok g c = on_ok c.print_line_end-2.result (λ m. Moves-append g.O.Output.keeps c.in_ok-print_line_end.ensures.ok m) c.print_line_end-2.ensures.ok

pub returns-clause-err : goal.returns-clause-err
returns-clause-err g c = on_err c.print_line_end-2.result (λ b. Begins-append g.O.Output.keeps c.in_ok-print_line_end.ensures.ok b) c.print_line_end-2.ensures.err
