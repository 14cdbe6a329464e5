use Rattle.std.proofs.Common.{rules, refl}
use Rattle.wit_model.specs.Valid.{labels}
use Rattle.wit_model.proofs.Checks.{keeps_three}
use Rattle.check_rules.proofs.labels.check.Goals as goal

pub returns-clause-kept : goal.returns-clause-kept
unfolding labels
returns-clause-kept c = keeps_three labels c.args.resolve.now refl (search rules) (search rules) (search rules)
