use Rattle.bind_sections.proofs.SectionWorlds as laws
use Rattle.bind_sections.proofs.laws.one_section_binds.Goals as goal

pub returns-clause-means : goal.returns-clause-means
returns-clause-means c = laws.bound_sections_mean

pub returns-clause-binds : goal.returns-clause-binds
returns-clause-binds c = laws.one_section_binds
