use Rattle.read_rules.proofs.WorldLaws.{keys_apart}
use Rattle.read_rules.proofs.items.have_one_key_each.Goals as goal

pub returns : goal.returns
returns c = keys_apart c.are_distinct.result c.args.items.now c.are_distinct.ensures
