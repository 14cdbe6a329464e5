use Rattle.plan_meaning.proofs.ReadPlaces as lemmas
use Rattle.plan_meaning.proofs.laws.read_places_pass.Goals as goal

pub returns : goal.returns
returns c = lemmas.read_places_pass
