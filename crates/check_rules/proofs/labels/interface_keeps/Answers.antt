use Rattle.wit_model.specs.Valid.{labels}
use Rattle.check_rules.proofs.Found.{said}
use Rattle.check_rules.proofs.labels.interface_keeps.Goals as goal

pub returns : goal.returns
unfolding labels
returns c = said (labels.interface_ c.args.resolve.now) _ _ _ _ c.requires c.index.ensures c.in_ok-kept.ensures
