use Rattle.std.proofs.Common.{refl}
use Rattle.print_items.proofs.Driven.{driven4}
use Rattle.print_uses.proofs.path.write_package_path.Goals as goal

pub returns-clause-calls : goal.returns-clause-calls
returns-clause-calls g c = driven4 (rw c.deref.ensures at c.name.ensures.calls) c.str.ensures.calls (rw c.deref-2.ensures at c.name-2.ensures.calls) c.str-2.ensures.calls refl
