use Rattle.bind_add.proofs.Roomed as laws
use Rattle.bind_add.proofs.laws.same_then_added.Goals as goal

pub returns : goal.returns
returns c = laws.same_then_added
