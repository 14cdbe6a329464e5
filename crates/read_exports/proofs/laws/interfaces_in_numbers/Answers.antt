use Rattle.read_exports.proofs.InterfaceLaws.{interfaces_are_parts}
use Rattle.read_exports.proofs.laws.interfaces_in_numbers.Goals as goal

pub returns : goal.returns
returns c = interfaces_are_parts
