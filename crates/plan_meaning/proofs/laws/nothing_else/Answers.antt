use Rattle.plan_meaning.proofs.NothingElse.{package_holds_alone, world_holds_alone}
use Rattle.plan_meaning.proofs.laws.nothing_else.Goals as goal

pub returns : goal.returns
returns c = record { package_ = package_holds_alone; world = world_holds_alone }
