use Rattle.read_exports.proofs.InterfaceLaws.{scopes_are_parts}
use Rattle.read_exports.proofs.laws.interface_scopes_in_numbers.Goals as goal

pub returns : goal.returns
returns c = scopes_are_parts
