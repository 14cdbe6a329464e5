use Rattle.std.proofs.Common.{rules, refl}
use Rattle.wit_model.specs.Valid.{depths}
use Rattle.wit_model.proofs.Checks.{keeps_three}
use Rattle.check_rules.proofs.levels.check.Goals as goal

pub returns-clause-kept : goal.returns-clause-kept
unfolding depths
returns-clause-kept c = keeps_three depths c.args.resolve.now refl (search rules) (search rules) (search rules)
