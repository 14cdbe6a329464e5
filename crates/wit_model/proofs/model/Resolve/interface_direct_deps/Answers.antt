use Rattle.std.proofs.Common.{rules as std_rules}
use Rattle.wit_model.proofs.model.Resolve.interface_direct_deps.Goals as goal

pub returns-in_ok-deps_of-in-Some-clause-ok : goal.returns-in_ok-deps_of-in-Some-clause-ok
returns-in_ok-deps_of-in-Some-clause-ok c = search std_rules
