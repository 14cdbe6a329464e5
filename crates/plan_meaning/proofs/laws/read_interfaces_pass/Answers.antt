use Rattle.plan_meaning.proofs.ReadInterfaces as lemmas
use Rattle.plan_meaning.proofs.laws.read_interfaces_pass.Goals as goal

pub returns : goal.returns
returns c = lemmas.read_interfaces_pass
