use Rattle.read_numbers.proofs.KnownNumbers.{facts_in_numbers}
use Rattle.read_numbers.proofs.laws.facts_in_numbers.Goals as goal

pub returns : goal.returns
returns c = facts_in_numbers
