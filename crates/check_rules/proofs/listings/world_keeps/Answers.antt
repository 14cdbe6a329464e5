use Rattle.std.proofs.Common.{sym, ◌∙◌}
use Rattle.indexmap.specs.IndexMap.{values}
use Rattle.wit_model.specs.{Rules.is_named_of, Rules.item_type, Valid.as_world, Checks.listings}
use Rattle.wit_model.proofs.Lists.{list_all_filter_map}
use Rattle.check_rules.proofs.Found.{said}
use Rattle.check_rules.proofs.listings.world_keeps.Goals as goal

pub returns : goal.returns
unfolding listings
returns c = said (listings.world_ c.args.resolve.now) _ _ _ _ c.requires c.index.ensures
    (c.imports_belong.ensures ∙ sym (list_all_filter_map (is_named_of c.args.resolve.now (as_world c.args.number)) item_type (values c.index.result.now.imports)))
