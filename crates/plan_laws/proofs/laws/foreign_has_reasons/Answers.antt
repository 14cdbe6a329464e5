use Rattle.plan_laws.proofs.WholeReasonsForeign.{foreign_reasons}
use Rattle.plan_laws.proofs.laws.foreign_has_reasons.Goals as goal

pub returns : goal.returns
returns c = foreign_reasons
