use Rattle.std.specs.HashMap.{get_by_text}
use Rattle.indexmap.specs.IndexMap.{values}
use Rattle.wit_model.specs.Text.{text_of}
use Rattle.wit_compat.proofs.{Members.among_found, Members.found_exact, Members.missing_exact, WorldContents.sense_of_item, WorldContents.value_in_range}
use Rattle.wit_compat.proofs.contents.same_item_under.Goals as goal

pub same_items-requires-clause-b : goal.same_items-requires-clause-b
same_items-requires-clause-b c = value_in_range c.args.right.now.resolve.now _ c.requires.others _ (among_found (values c.args.others.now) _ _ c.get.ensures.member c.in-Some.is)

pub returns-in-Some-clause-exact : goal.returns-in-Some-clause-exact
returns-in-Some-clause-exact c = found_exact (sense_of_item c.args.right.now.resolve.now) (sense_of_item c.args.left.now.resolve.now c.args.item) (get_by_text c.args.others.now) _
    (text_of c.args.key.now) _ c.as_str.ensures.value c.get.ensures.value _ c.in-Some.is _ c.same_items.ensures.exact

pub returns-in-None-clause-exact : goal.returns-in-None-clause-exact
returns-in-None-clause-exact c = missing_exact (sense_of_item c.args.right.now.resolve.now) (sense_of_item c.args.left.now.resolve.now c.args.item) (get_by_text c.args.others.now) _
    (text_of c.args.key.now) _ c.as_str.ensures.value c.get.ensures.value c.in-None.is
