use Rattle.wit_model.specs.Valid.{world_items}
use Rattle.wit_model.proofs.Entries.{worlds_keep}
use Rattle.check_rules.proofs.items.check.Goals as goal

pub returns-in-None-clause-kept : goal.returns-in-None-clause-kept
unfolding world_items
returns-in-None-clause-kept c = worlds_keep world_items.world_ c.args.resolve.now c.in-None.ensures
