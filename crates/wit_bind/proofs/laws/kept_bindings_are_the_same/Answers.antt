use Rattle.wit_bind.proofs.KeptBindings as laws
use Rattle.wit_bind.proofs.laws.kept_bindings_are_the_same.Goals as goal

pub returns : goal.returns
returns c = laws.kept_bindings_are_the_same
