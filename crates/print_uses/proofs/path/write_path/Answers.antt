use Rattle.std.proofs.Common.{ap}
use Rattle.print_grammar.specs.Calls.{path_calls}
use Rattle.print_uses.proofs.PathParts.{path_at, placed_at}
use Rattle.print_items.proofs.{Driven.driven_as, TypeParts.read_at}
use Rattle.print_uses.proofs.path.write_path.Goals as goal

pub write_path_to-requires-clause-placed : goal.write_path_to-requires-clause-placed
write_path_to-requires-clause-placed g c = placed_at c.args.resolve.now c.args.id.0 c.index-interface.result.now c.requires.valid (read_at _ _ _ c.requires.in_range c.index-interface.ensures)

pub write_path_to-requires-clause-well : goal.write_path_to-requires-clause-well
write_path_to-requires-clause-well g c =
    rw (path_at c.args.resolve.now c.args.here c.args.id c.index-interface.result.now (read_at _ _ _ c.requires.in_range c.index-interface.ensures)) c.requires.well

pub returns-clause-calls : goal.returns-clause-calls
returns-clause-calls g c =
    let at = read_at _ _ _ c.requires.in_range c.index-interface.ensures in
    driven_as c.write_path_to.ensures.calls (ap path_calls (path_at c.args.resolve.now c.args.here c.args.id c.index-interface.result.now at))
