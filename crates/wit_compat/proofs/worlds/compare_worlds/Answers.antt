use Rattle.std.proofs.Common.{rules, refl}
use Rattle.wit_model.specs.declared.error.Error.TheVariants as error
use Rattle.compat_meaning.specs.Compatible.{memory, other_package, packages, refused}
use Rattle.wit_compat.proofs.worlds.compare_worlds.Goals as goal

pub returns-then-not-same_packages-clause-accepts : goal.returns-then-not-same_packages-clause-accepts
returns-then-not-same_packages-clause-accepts c = refused error.OtherPackage other_package refl (packages (c.same_packages.ensures.differ (search rules)))

pub returns-in-Err-clause-accepts : goal.returns-in-Err-clause-accepts
returns-in-Err-clause-accepts c = memory
