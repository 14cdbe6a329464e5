use Rattle.wit_bind.proofs.Extending as laws
use Rattle.wit_bind.proofs.laws.grown_extend.Goals as goal

pub returns : goal.returns
returns c = laws.grown_extend
