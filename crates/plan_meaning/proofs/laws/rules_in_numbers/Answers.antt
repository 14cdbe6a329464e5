use Rattle.plan_meaning.proofs.NumberedRules.{each_rule_in_numbers}
use Rattle.plan_meaning.proofs.laws.rules_in_numbers.Goals as goal

pub returns : goal.returns
returns c = each_rule_in_numbers
