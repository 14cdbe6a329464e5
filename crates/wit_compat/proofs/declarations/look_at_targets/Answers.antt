use Rattle.wit_compat.proofs.Declared.{aliases}
use Rattle.wit_compat.proofs.declarations.look_at_targets.Goals as goal

pub returns : goal.returns
returns c = aliases c.args.kind.now c.args.other.now c.args.a c.args.b c.in_ok-left.left c.in_ok-right.right c.requires.a c.requires.b c.in_ok-left.ensures c.in_ok-right.ensures
