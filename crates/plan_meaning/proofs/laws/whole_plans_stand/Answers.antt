use Rattle.plan_meaning.proofs.ReadWholes.{read_package_plan_stands, read_world_plan_stands}
use Rattle.plan_meaning.proofs.laws.whole_plans_stand.Goals as goal

pub returns : goal.returns
returns c = record { package_ = read_package_plan_stands; world = read_world_plan_stands }
