use Rattle.read_numbers.proofs.MetNumbers.{met_parts_are_seen}
use Rattle.read_numbers.proofs.laws.met_parts_are_seen.Goals as goal

pub returns : goal.returns
returns c = met_parts_are_seen
