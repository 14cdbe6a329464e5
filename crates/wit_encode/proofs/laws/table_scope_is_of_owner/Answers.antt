use Rattle.wit_encode.proofs.OwnerScope as lemmas
use Rattle.wit_encode.proofs.laws.table_scope_is_of_owner.Goals as goal

pub returns : goal.returns
returns c = record { scope = lemmas.table_is_scope; uses = lemmas.table_uses_stand }
