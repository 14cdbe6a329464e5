use Rattle.plan_meaning.proofs.ReadWorlds as lemmas
use Rattle.plan_meaning.proofs.laws.read_worlds_pass.Goals as goal

pub returns : goal.returns
returns c = lemmas.read_worlds_pass
