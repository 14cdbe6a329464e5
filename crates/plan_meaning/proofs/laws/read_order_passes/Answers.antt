use Rattle.plan_meaning.proofs.ReadOrder as lemmas
use Rattle.plan_meaning.proofs.laws.read_order_passes.Goals as goal

pub returns : goal.returns
returns c = lemmas.read_order_passes
