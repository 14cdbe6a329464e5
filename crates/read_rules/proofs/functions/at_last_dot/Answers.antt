use Rattle.read_rules.proofs.LastDots.{last_dot_found}
use Rattle.read_rules.proofs.functions.at_last_dot.Goals as goal

pub returns : goal.returns
returns c = last_dot_found c.args.text.now c.rsplit_once.result c.rsplit_once.ensures.cases
