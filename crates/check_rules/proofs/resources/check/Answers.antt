use Rattle.std.proofs.Common.{rules, refl}
use Rattle.wit_model.specs.Valid.{handles}
use Rattle.wit_model.proofs.Checks.{keeps_three}
use Rattle.check_rules.proofs.resources.check.Goals as goal

pub returns-clause-kept : goal.returns-clause-kept
unfolding handles
returns-clause-kept c = keeps_three handles c.args.resolve.now refl (search rules) (search rules) (search rules)
