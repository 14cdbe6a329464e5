use Rattle.std.proofs.Common.{rules}
use Rattle.wit_model.specs.Valid.{names_in_packages}
use Rattle.wit_model.proofs.Entries.{found_packages}
use Rattle.check_rules.proofs.keys.first_package.Goals as goal

pub returns : goal.returns
returns c = found_packages names_in_packages c.args.resolve.now c.deref.result.now c.deref.ensures.value c.first_failing.result (c.first_failing.ensures _ (λ n x b post. search rules))
