use Rattle.std.proofs.Common.{List, subst}
use Rattle.read_follow.specs.Functions.{AreApart, FunctionShape}
use Rattle.read_follow.proofs.functions.Functions.are_apart.Goals as goal

pub returns : goal.returns
returns c = subst (λ (fs : List FunctionShape). AreApart fs) c.self.view_is c.self.invariant
