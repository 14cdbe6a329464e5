use Rattle.plan_laws.proofs.WorldKeys as lemmas
use Rattle.plan_laws.proofs.laws.planned_worlds_stand.Goals as goal

pub returns : goal.returns
returns c = lemmas.planned_worlds_stand
