use Rattle.read_numbers.proofs.PlacedMembers.{places_are_kept}
use Rattle.read_numbers.proofs.laws.places_are_kept.Goals as goal

pub returns : goal.returns
returns c = places_are_kept
