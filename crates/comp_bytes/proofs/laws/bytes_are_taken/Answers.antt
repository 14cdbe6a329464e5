use Rattle.comp_bytes.proofs.PieceLaws as laws
use Rattle.comp_bytes.proofs.laws.bytes_are_taken.Goals as goal

pub returns-clause-declarations : goal.returns-clause-declarations
returns-clause-declarations c = laws.declarations_take

pub returns-clause-entries : goal.returns-clause-entries
returns-clause-entries c = laws.entries_take

pub returns-clause-part_types : goal.returns-clause-part_types
returns-clause-part_types c = laws.part_types_take
