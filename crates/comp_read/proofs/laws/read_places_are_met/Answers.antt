use Rattle.comp_read.proofs.Followed.{read_places_are_met}
use Rattle.comp_read.proofs.laws.read_places_are_met.Goals as goal

pub returns : goal.returns
returns c = read_places_are_met
