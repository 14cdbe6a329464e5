use Rattle.std.proofs.Common.{sym, true, false}
use Rattle.read_parts.proofs.TopLaws.{number_absent, number_given}
use Rattle.read_parts.proofs.tops.number_of.Goals as goal

pub returns-then-may_export : goal.returns-then-may_export
returns-then-may_export c = number_given c.args.tops.now c.args.export c.deref.result.now c.in-Some.number true c.deref.ensures.value c.in-Some.ensures (sym c.if-may_export.ensures)

pub returns-else-may_export : goal.returns-else-may_export
returns-else-may_export c = number_given c.args.tops.now c.args.export c.deref.result.now c.in-Some.number false c.deref.ensures.value c.in-Some.ensures (sym c.if-may_export.ensures)

pub returns-in-None : goal.returns-in-None
returns-in-None c = number_absent c.args.tops.now c.args.export c.deref.result.now c.deref.ensures.value c.in-None.ensures
