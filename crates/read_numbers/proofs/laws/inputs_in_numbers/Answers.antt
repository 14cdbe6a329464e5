use Rattle.read_numbers.proofs.InputNumbers.{input_in_numbers}
use Rattle.read_numbers.proofs.laws.inputs_in_numbers.Goals as goal

pub returns : goal.returns
returns c = input_in_numbers
