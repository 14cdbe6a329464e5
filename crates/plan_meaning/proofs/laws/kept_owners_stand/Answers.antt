use Rattle.plan_meaning.proofs.KeptOwners as lemmas
use Rattle.plan_meaning.proofs.laws.kept_owners_stand.Goals as goal

pub returns : goal.returns
returns c = lemmas.kept_owners_stand
