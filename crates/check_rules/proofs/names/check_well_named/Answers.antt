use Rattle.check_rules.proofs.PackageNames.{misnamed_breaks}
use Rattle.check_rules.proofs.names.check_well_named.Goals as goal

pub returns-in-Some-clause-broken : goal.returns-in-Some-clause-broken
returns-in-Some-clause-broken c = misnamed_breaks c.args.resolve.now c.in-Some.number c.in-Some.ensures
