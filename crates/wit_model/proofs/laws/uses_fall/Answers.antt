use Rattle.wit_model.proofs.Chains as laws
use Rattle.wit_model.proofs.laws.uses_fall.Goals as goal

pub returns : goal.returns
returns c = laws.uses_fall
