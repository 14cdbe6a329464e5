use Rattle.check_rules.proofs.PackageNames.{names_kept}
use Rattle.check_rules.proofs.names.check.Goals as goal

pub returns-clause-kept : goal.returns-clause-kept
returns-clause-kept c = names_kept c.args.resolve.now c.in_ok-check_well_named.ensures.kept c.in_ok-check_distinct.ensures.kept
