use Rattle.comp_bytes.proofs.IndexWrites as laws
use Rattle.comp_bytes.proofs.laws.shortest_index.Goals as goal

pub returns : goal.returns
returns c = laws.shortest_index
