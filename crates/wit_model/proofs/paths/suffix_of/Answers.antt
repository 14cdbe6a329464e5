use Rattle.std.proofs.Common.{rules as std_rules}
use Rattle.wit_model.proofs.paths.suffix_of.Goals as goal

pub returns-then-rest-gt0 : goal.returns-then-rest-gt0
returns-then-rest-gt0 c = search std_rules

pub returns-else-rest-gt0 : goal.returns-else-rest-gt0
returns-else-rest-gt0 c = search std_rules
