use Rattle.plan_parts.proofs.FirstAgreement.{agree_by_first}
use Rattle.plan_parts.proofs.laws.first_views_tell.Goals as goal

pub returns : goal.returns
returns c = agree_by_first
