use Rattle.std.proofs.Common.{rules}
use Rattle.encode_types.specs.Heads.{head_of}
use Rattle.encode_types.proofs.param_names.head_of.Goals as goal

pub returns : goal.returns
unfolding head_of
returns c = search rules
