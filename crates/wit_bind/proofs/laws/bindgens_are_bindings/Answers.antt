use Rattle.wit_bind.proofs.RootBindings as laws
use Rattle.wit_bind.proofs.laws.bindgens_are_bindings.Goals as goal

pub returns : goal.returns
returns c = laws.bindgens_are_bindings
