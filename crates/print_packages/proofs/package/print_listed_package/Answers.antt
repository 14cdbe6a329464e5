use Rattle.std.proofs.{Common.◌++◌, lemmas.Result.on_err_weaker as on_err, lemmas.Result.on_ok_weaker as on_ok}
use Rattle.std.specs.List.{flat_map}
use Rattle.print_uses.specs.Printable.{listed_calls, listed_interface_calls}
use Rattle.print_grammar.specs.Calls.{package_end_calls}
use Rattle.print_items.proofs.Moves.{Moves-append, Begins-append, Begins-more}
use Rattle.base_lemmas.proofs.Options.{at_err}
use Rattle.print_packages.proofs.package.print_listed_package.Goals as goal

pub returns-in_err-print_package_start-clause-err : goal.returns-in_err-print_package_start-clause-err
returns-in_err-print_package_start-clause-err g c =
    let p = c.args.package.now in
    let interfaces = flat_map (listed_interface_calls c.args.emits_docs c.args.is_main c.args.resolve.now) p.interfaces.entries in
    let worlds = flat_map (listed_calls c.args.emits_docs c.args.resolve.now) p.worlds.entries in
    at_err c.from_residual.result (Begins-more g.O.Output.keeps (interfaces ++ (worlds ++ package_end_calls c.args.is_main)) c.in_err-print_package_start.ensures.err)

pub returns-in_err-print_interfaces-clause-err : goal.returns-in_err-print_interfaces-clause-err
returns-in_err-print_interfaces-clause-err g c =
    let worlds = flat_map (listed_calls c.args.emits_docs c.args.resolve.now) c.args.package.now.worlds.entries in
    at_err c.from_residual-in_err-print_interfaces.result (Begins-append g.O.Output.keeps c.in_ok-print_package_start.ensures.ok
    (Begins-more g.O.Output.keeps (worlds ++ package_end_calls c.args.is_main) c.in_err-print_interfaces.ensures.err))

pub returns-in_err-print_worlds-clause-err : goal.returns-in_err-print_worlds-clause-err
returns-in_err-print_worlds-clause-err g c = at_err c.from_residual-in_err-print_worlds.result (Begins-append g.O.Output.keeps c.in_ok-print_package_start.ensures.ok
    (Begins-append g.O.Output.keeps c.in_ok-print_interfaces.ensures.ok (Begins-more g.O.Output.keeps (package_end_calls c.args.is_main) c.in_err-print_worlds.ensures.err)))

pub returns-clause-ok : goal.returns-clause-ok
returns-clause-ok g c = on_ok c.print_package_end.result (λ m. Moves-append g.O.Output.keeps c.in_ok-print_package_start.ensures.ok
    (Moves-append g.O.Output.keeps c.in_ok-print_interfaces.ensures.ok (Moves-append g.O.Output.keeps c.in_ok-print_worlds.ensures.ok m))) c.print_package_end.ensures.ok

pub returns-clause-err : goal.returns-clause-err
returns-clause-err g c = on_err c.print_package_end.result (λ b. Begins-append g.O.Output.keeps c.in_ok-print_package_start.ensures.ok
    (Begins-append g.O.Output.keeps c.in_ok-print_interfaces.ensures.ok (Begins-append g.O.Output.keeps c.in_ok-print_worlds.ensures.ok b))) c.print_package_end.ensures.err
