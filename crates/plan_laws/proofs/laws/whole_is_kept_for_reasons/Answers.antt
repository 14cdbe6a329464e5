use Rattle.plan_laws.proofs.WholeReasonsForeign.{kept_for_reasons}
use Rattle.plan_laws.proofs.laws.whole_is_kept_for_reasons.Goals as goal

pub returns : goal.returns
returns c t h known n ms members given alike have p planned b owned read = kept_for_reasons t h known n ms members given alike p planned b read have owned
