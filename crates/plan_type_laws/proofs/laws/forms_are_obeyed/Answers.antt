use Rattle.plan_type_laws.proofs.FormsObeyed.{forms_obeyed}
use Rattle.plan_type_laws.proofs.laws.forms_are_obeyed.Goals as goal

pub returns : goal.returns
returns c = forms_obeyed
