use Rattle.bind_sections.proofs.BoundLaws as laws
use Rattle.bind_sections.proofs.laws.bound_once.Goals as goal

pub returns-clause-sections : goal.returns-clause-sections
returns-clause-sections c = laws.sections_mean_once

pub returns-clause-one : goal.returns-clause-one
returns-clause-one c = laws.bound_once

pub returns-clause-refused : goal.returns-clause-refused
returns-clause-refused c = laws.bound_is_not_refused

pub returns-clause-refusal : goal.returns-clause-refusal
returns-clause-refusal c = laws.one_refusal
