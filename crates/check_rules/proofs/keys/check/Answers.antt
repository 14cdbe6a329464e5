use Rattle.wit_model.specs.Valid.{names_in_packages}
use Rattle.wit_model.proofs.Entries.{packages_keep}
use Rattle.check_rules.proofs.keys.check.Goals as goal

pub returns-in-None-clause-kept : goal.returns-in-None-clause-kept
unfolding names_in_packages
returns-in-None-clause-kept c = packages_keep names_in_packages.package_ c.args.resolve.now c.in-None.ensures
