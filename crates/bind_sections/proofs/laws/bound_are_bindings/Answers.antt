use Rattle.bind_sections.proofs.ReadBindings as laws
use Rattle.bind_sections.proofs.laws.bound_are_bindings.Goals as goal

pub returns-clause-sections : goal.returns-clause-sections
returns-clause-sections c = laws.sections_are_bindings

pub returns-clause-modules : goal.returns-clause-modules
returns-clause-modules c = laws.bound_are_bindings
