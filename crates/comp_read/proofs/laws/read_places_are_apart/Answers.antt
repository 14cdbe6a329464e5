use Rattle.comp_read.proofs.Inputs.{read_places_are_apart}
use Rattle.comp_read.proofs.laws.read_places_are_apart.Goals as goal

pub returns : goal.returns
returns c = read_places_are_apart
