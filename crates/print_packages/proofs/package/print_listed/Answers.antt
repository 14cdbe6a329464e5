use Rattle.std.proofs.Common.{subst, OnOk, OnErr}
use Rattle.print_output.specs.OutputCall.{Moves, Begins}
use Rattle.print_packages.proofs.PackageCalls.{listed_at, calls_at}
use Rattle.print_packages.proofs.package.print_listed.Goals as goal

pub print_world-requires-clause-world : goal.print_world-requires-clause-world
print_world-requires-clause-world g c =
    let found = listed_at c.args.resolve.now c.args.here (c.args.name.now, c.args.id.now) c.index-world.result.now c.index-world.ensures c.requires.printable in found.1

pub returns : goal.returns
returns g c =
    let same = calls_at c.args.emits_docs c.args.resolve.now c.args.here (c.args.name.now, c.args.id.now) c.index-world.result.now c.deref.result.now c.deref.ensures c.index-world.ensures
    c.requires.printable in
    record {
      ok = subst (λ calls. OnOk c.print_world.result (Moves g.O.Output.keeps (g.O.Output.view c.args.output.now) calls (g.O.Output.view c.print_world.new.output))) same c.print_world.ensures.ok;
      err = subst (λ calls. OnErr c.print_world.result (Begins g.O.Output.keeps (g.O.Output.view c.args.output.now) calls (g.O.Output.view c.print_world.new.output))) same c.print_world.ensures.err;
      memory = c.print_world.ensures.memory;
    }
