use Rattle.read_parts.proofs.TopLaws.{part_here, part_nowhere}
use Rattle.read_parts.proofs.exported.part_of.Goals as goal

pub returns-in-Some-clause-found : goal.returns-in-Some-clause-found
returns-in-Some-clause-found c = part_here c.args.tops.now.types.items c.deref.result.now c.args.export.label.now c.args.export.number c.in-Some.top c.deref.ensures.value c.in-Some.ensures

pub returns-in-None-clause-found : goal.returns-in-None-clause-found
returns-in-None-clause-found c = part_nowhere c.args.tops.now.types.items c.deref.result.now c.args.export.label.now c.args.export.number c.deref.ensures.value c.in-None.ensures
