use Rattle.std.proofs.{Common.[], Common.◌∷◌, Common.◌++◌, lemmas.Result.on_err_weaker as on_err, lemmas.Result.on_ok_weaker as on_ok}
use Rattle.print_output.specs.OutputCall.OutputCall.{IndentEnd}
use Rattle.print_uses.specs.Printable.{world_body_calls}
use Rattle.print_items.proofs.Moves.{Moves-append, Begins-append, Begins-more}
use Rattle.base_lemmas.proofs.Options.{at_err}
use Rattle.print_packages.proofs.package.print_world.Goals as goal

pub returns-in_err-print_world_start-clause-err : goal.returns-in_err-print_world_start-clause-err
returns-in_err-print_world_start-clause-err g c = at_err c.from_residual.result
    (Begins-more g.O.Output.keeps (world_body_calls c.args.emits_docs c.args.resolve.now c.args.here c.args.id c.args.world.now ++ (IndentEnd ∷ [])) c.in_err-print_world_start.ensures.err)

pub returns-in_err-print_world_body-clause-err : goal.returns-in_err-print_world_body-clause-err
returns-in_err-print_world_body-clause-err g c = at_err c.from_residual-in_err-print_world_body.result (Begins-append g.O.Output.keeps c.in_ok-print_world_start.ensures.ok
    (Begins-more g.O.Output.keeps (IndentEnd ∷ []) c.in_err-print_world_body.ensures.err))

pub returns-clause-ok : goal.returns-clause-ok
returns-clause-ok g c = on_ok c.print_block_end.result (λ m. Moves-append g.O.Output.keeps c.in_ok-print_world_start.ensures.ok (Moves-append g.O.Output.keeps c.in_ok-print_world_body.ensures.ok m))
    c.print_block_end.ensures.ok

pub returns-clause-err : goal.returns-clause-err
returns-clause-err g c = on_err c.print_block_end.result (λ b. Begins-append g.O.Output.keeps c.in_ok-print_world_start.ensures.ok
    (Begins-append g.O.Output.keeps c.in_ok-print_world_body.ensures.ok b)) c.print_block_end.ensures.err
