use Rattle.std.proofs.Common.{rules, refl}
use Rattle.wit_model.specs.Valid.{function_names}
use Rattle.wit_model.proofs.Checks.{keeps_two}
use Rattle.check_rules.proofs.members.check.Goals as goal

pub returns-clause-kept : goal.returns-clause-kept
unfolding function_names
returns-clause-kept c = keeps_two function_names c.args.resolve.now refl refl (search rules) (search rules)
