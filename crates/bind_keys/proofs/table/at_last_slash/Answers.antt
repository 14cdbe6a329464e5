use Rattle.bind_keys.proofs.LastSlashes.{last_slash_found}
use Rattle.bind_keys.proofs.table.at_last_slash.Goals as goal

pub returns : goal.returns
returns c = last_slash_found c.args.text.now c.rsplit_once.result c.rsplit_once.ensures.cases
