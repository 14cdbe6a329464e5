use Rattle.std.proofs.Common.{refl}
use Rattle.print_output.specs.OutputCall.Moves.{nothing_moved}
use Rattle.print_uses.proofs.use_group.print_open_end.Goals as goal

pub returns-in-None-clause-ok : goal.returns-in-None-clause-ok
returns-in-None-clause-ok g c = rw c.in-None.is (nothing_moved refl)
