use Rattle.print_grammar.specs.Calls.{line_after_calls}
use Rattle.print_items.proofs.Moves.{Moves-append, Begins-append, Begins-more}
use Rattle.print_packages.proofs.package.print_interface_end.Goals as goal
use Rattle.base_lemmas.proofs.Options.{at_err}
use Rattle.std.proofs.lemmas.Result.{on_err_weaker as on_err, on_ok_weaker as on_ok}

pub returns-in_err-print_block_end-clause-err : goal.returns-in_err-print_block_end-clause-err
returns-in_err-print_block_end-clause-err g c = at_err c.from_residual.result (Begins-more g.O.Output.keeps (line_after_calls c.args.is_main) c.in_err-print_block_end.ensures.err)

pub returns-clause-ok : goal.returns-clause-ok
returns-clause-ok g c = on_ok c.print_line_after.result (λ m. Moves-append g.O.Output.keeps c.in_ok-print_block_end.ensures.ok m) c.print_line_after.ensures.ok

pub returns-clause-err : goal.returns-clause-err
returns-clause-err g c = on_err c.print_line_after.result (λ b. Begins-append g.O.Output.keeps c.in_ok-print_block_end.ensures.ok b) c.print_line_after.ensures.err
