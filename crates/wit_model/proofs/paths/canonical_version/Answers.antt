use Rattle.std.proofs.Common.{rules as std_rules}
use Rattle.wit_model.proofs.paths.canonical_version.Goals as goal

pub returns-in_ok-format-3-clause-ok : goal.returns-in_ok-format-3-clause-ok
returns-in_ok-format-3-clause-ok c = search std_rules

pub returns-in_ok-format-4-clause-ok : goal.returns-in_ok-format-4-clause-ok
returns-in_ok-format-4-clause-ok c = search std_rules
