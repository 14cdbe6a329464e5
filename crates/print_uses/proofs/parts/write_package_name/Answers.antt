use Rattle.std.proofs.Common.{refl}
use Rattle.print_items.proofs.Driven.{driven5}
use Rattle.print_uses.proofs.parts.write_package_name.Goals as goal

pub returns-clause-calls : goal.returns-clause-calls
returns-clause-calls g c = driven5 c.keyword_and_blank.ensures.calls (rw c.deref.ensures at c.name.ensures.calls) c.str.ensures.calls (rw c.deref-2.ensures at c.name-2.ensures.calls)
    c.write_version.ensures.calls refl
