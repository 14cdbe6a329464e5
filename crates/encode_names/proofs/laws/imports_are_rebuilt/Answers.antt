use Rattle.encode_names.proofs.Rebuilt as lemmas
use Rattle.encode_names.proofs.EntriesRebuilt as entries
use Rattle.encode_names.proofs.laws.imports_are_rebuilt.Goals as goal

pub returns-clause-known : goal.returns-clause-known
returns-clause-known c = lemmas.imports_are_known

pub returns-clause-last : goal.returns-clause-last
returns-clause-last c = lemmas.types_come_last

pub returns-clause-entries : goal.returns-clause-entries
returns-clause-entries c = entries.entries_are_rebuilt
