use Rattle.plan_type_laws.proofs.KeptMarks.{marks_kept}
use Rattle.plan_type_laws.proofs.laws.marks_are_kept.Goals as goal

pub returns : goal.returns
returns c = marks_kept
