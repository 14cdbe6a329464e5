use Rattle.std.proofs.Common.{List, subst}
use Rattle.plan_meaning.specs.Shapes.{Shape, IsTable}
use Rattle.read_follow.proofs.table.Table.is_well_formed.Goals as goal

pub returns : goal.returns
returns c = subst (λ (ss : List Shape). IsTable ss) c.self.view_is c.self.invariant.table
