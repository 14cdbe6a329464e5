use Rattle.check_rules.proofs.Found.{walked}
use Rattle.check_rules.proofs.owners.check_interfaces.Goals as goal

pub returns-clause-kept : goal.returns-clause-kept
returns-clause-kept c = search walked
