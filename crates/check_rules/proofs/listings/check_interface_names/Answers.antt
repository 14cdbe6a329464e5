use Rattle.check_rules.proofs.Found.{walked}
use Rattle.check_rules.proofs.listings.check_interface_names.Goals as goal

pub returns-clause-kept : goal.returns-clause-kept
returns-clause-kept c = search walked
