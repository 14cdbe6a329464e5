use Rattle.encode_names.proofs.TypesFound as found
use Rattle.encode_names.proofs.InstancesStand as lemmas
use Rattle.encode_names.proofs.laws.instances_stand.Goals as goal

pub returns-clause-stand : goal.returns-clause-stand
returns-clause-stand c = lemmas.instances_stand

pub returns-clause-types : goal.returns-clause-types
returns-clause-types c = found.types_are_found

pub returns-clause-aliases : goal.returns-clause-aliases
returns-clause-aliases c = lemmas.aliases_are_names
