use Rattle.std.proofs.Common.{rules}
use Rattle.check_rules.specs.PackageNames.{well_named}
use Rattle.wit_model.proofs.Entries.{found_packages}
use Rattle.check_rules.proofs.names.first_misnamed.Goals as goal

pub returns : goal.returns
returns c = found_packages well_named c.args.resolve.now c.deref.result.now c.deref.ensures.value c.first_failing.result (c.first_failing.ensures _ (λ n x b post. search rules))
