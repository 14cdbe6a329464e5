use Rattle.encode_exports.proofs.Exports.{all_exported}
use Rattle.encode_exports.proofs.laws.types_are_exported.Goals as goal

pub returns : goal.returns
returns c = all_exported
