use Rattle.std.proofs.Common.{rules, refl}
use Rattle.wit_model.specs.Valid.{owners}
use Rattle.wit_model.proofs.Checks.{keeps_three}
use Rattle.check_rules.proofs.owners.check.Goals as goal

pub returns-clause-kept : goal.returns-clause-kept
unfolding owners
returns-clause-kept c = keeps_three owners c.args.resolve.now refl (search rules) (search rules) (search rules)
