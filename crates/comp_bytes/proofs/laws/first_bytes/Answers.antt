use Rattle.comp_bytes.proofs.FirstByteLaws as laws
use Rattle.comp_bytes.proofs.FrontLaws as fronts
use Rattle.comp_bytes.proofs.laws.first_bytes.Goals as goal

pub returns-clause-definitions : goal.returns-clause-definitions
returns-clause-definitions c = laws.definitions_chosen

pub returns-clause-declared : goal.returns-clause-declared
returns-clause-declared c = laws.declared_types_chosen

pub returns-clause-values : goal.returns-clause-values
returns-clause-values c = laws.value_types_chosen

pub returns-clause-entries : goal.returns-clause-entries
returns-clause-entries c = fronts.entries_by_front

pub returns-clause-part_types : goal.returns-clause-part_types
returns-clause-part_types c = fronts.part_types_by_front
