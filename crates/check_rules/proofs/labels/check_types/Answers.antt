use Rattle.check_rules.proofs.Found.{walked}
use Rattle.check_rules.proofs.labels.check_types.Goals as goal

pub returns-clause-kept : goal.returns-clause-kept
returns-clause-kept c = search walked
