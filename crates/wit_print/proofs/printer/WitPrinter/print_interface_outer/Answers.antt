use Rattle.std.proofs.{Common.◌≡◌, Common.subst, Common.Some, Common.refl, lemmas.Result.on_err_weaker as on_err, lemmas.Result.on_ok_weaker as on_ok}
use Rattle.std.proofs.lemmas.Option.{slice_get_read}
use Rattle.wit_model.specs.Lookup.{interface_at}
use Rattle.print_output.specs.OutputCall.{Moves, Begins}
use Rattle.wit_print.proofs.InterfaceHeads.{interface_gates, head_at}
use Rattle.print_items.proofs.ShownWell.{gates_well}
use Rattle.wit_print.proofs.printer.WitPrinter.print_interface_outer.Goals as goal

pub print_head-requires-clause-gates : goal.print_head-requires-clause-gates
print_head-requires-clause-gates g c =
    let at : interface_at c.args.resolve.now c.args.id.0 ≡ Some c.index-interface.result.now = slice_get_read _ _ _ _ refl c.requires.in_range c.index-interface.ensures in
    gates_well c.index-interface.result.now.stability (interface_gates c.args.resolve.now c.args.id.0 c.index-interface.result.now c.requires.valid at)

pub returns-clause-ok : goal.returns-clause-ok
returns-clause-ok g c =
    let at : interface_at c.args.resolve.now c.args.id.0 ≡ Some c.index-interface.result.now = slice_get_read _ _ _ _ refl c.requires.in_range c.index-interface.ensures in
    let same = head_at c.args.self.now.emit_docs c.args.resolve.now c.args.id c.index-interface.result.now c.args.name.now at in
    on_ok c.print_head.result (λ m. subst (λ calls. Moves g.O.Output.keeps (g.O.Output.view c.args.self.now.output) calls (g.O.Output.view c.print_head.new.output)) same m) c.print_head.ensures.ok

pub returns-clause-err : goal.returns-clause-err
returns-clause-err g c =
    let at : interface_at c.args.resolve.now c.args.id.0 ≡ Some c.index-interface.result.now = slice_get_read _ _ _ _ refl c.requires.in_range c.index-interface.ensures in
    let same = head_at c.args.self.now.emit_docs c.args.resolve.now c.args.id c.index-interface.result.now c.args.name.now at in
    on_err c.print_head.result (λ b. subst (λ calls. Begins g.O.Output.keeps (g.O.Output.view c.args.self.now.output) calls (g.O.Output.view c.print_head.new.output)) same b) c.print_head.ensures.err
