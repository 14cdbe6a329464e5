use Rattle.bind_meaning.proofs.WorldBindings as laws
use Rattle.bind_meaning.proofs.laws.worlds_are_bindings.Goals as goal

pub returns : goal.returns
returns c = laws.worlds_are_bindings
