use Rattle.plan_laws.proofs.WholeWorlds as lemmas
use Rattle.plan_laws.proofs.laws.planned_worlds_are_read.Goals as goal

pub returns : goal.returns
returns c = lemmas.planned_worlds_are_read
