use Rattle.plan_meaning.proofs.ReadPlans as lemmas
use Rattle.plan_meaning.proofs.laws.read_plans_stand.Goals as goal

pub returns : goal.returns
returns c = lemmas.read_plan_stands
