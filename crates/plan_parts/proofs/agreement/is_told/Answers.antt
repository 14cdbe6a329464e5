use Rattle.std.proofs.Common.{◌∙◌}
use Rattle.read_rules.specs.Views.{numbered_function}
use Rattle.plan_parts.proofs.AgreementLaws.{told_among}
use Rattle.plan_parts.proofs.agreement.is_told.Goals as goal

pub returns : goal.returns
returns c = c.contains.ensures ∙ told_among c.told.result (numbered_function c.args.function) c.told.ensures c.args.all.now.keys
