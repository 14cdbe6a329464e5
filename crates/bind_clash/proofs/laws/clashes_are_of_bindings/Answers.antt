use Rattle.bind_clash.proofs.ClashesMeant as lemmas
use Rattle.bind_clash.proofs.FaultsMeant as faults
use Rattle.bind_clash.proofs.laws.clashes_are_of_bindings.Goals as goal

pub returns : goal.returns
returns c = record { faults = faults.faults_are_of_bindings; clashes = lemmas.clashes_are_of_bindings; last = lemmas.encodings_clash_last; none = lemmas.none_is_of_bindings }
