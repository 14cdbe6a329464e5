use Rattle.plan_type_laws.proofs.UsedParts.{used_are_fine}
use Rattle.plan_type_laws.proofs.laws.used_parts_are_fine.Goals as goal

pub returns : goal.returns
returns c = used_are_fine
