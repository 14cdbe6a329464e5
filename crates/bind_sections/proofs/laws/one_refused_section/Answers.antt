use Rattle.bind_sections.proofs.BlamedLaws as laws
use Rattle.bind_sections.proofs.laws.one_refused_section.Goals as goal

pub returns-clause-one : goal.returns-clause-one
returns-clause-one c = laws.one_refused_section

pub returns-clause-none : goal.returns-clause-none
returns-clause-none c = laws.no_refused_section
