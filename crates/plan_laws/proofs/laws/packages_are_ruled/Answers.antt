use Rattle.plan_laws.proofs.WholeTypes as lemmas
use Rattle.plan_laws.proofs.laws.packages_are_ruled.Goals as goal

pub returns : goal.returns
returns c = lemmas.packages_are_ruled
