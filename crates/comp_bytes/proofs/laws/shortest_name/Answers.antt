use Rattle.comp_bytes.proofs.NameWrites as laws
use Rattle.comp_bytes.proofs.laws.shortest_name.Goals as goal

pub returns : goal.returns
returns c = laws.shortest_name
