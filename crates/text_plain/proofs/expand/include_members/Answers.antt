use Rattle.std.proofs.Common.{map}
use Rattle.base_lemmas.proofs.Options.{on_ok}
use Rattle.text_trees.specs.TreesSeen.{used_name_of, world_member_of}
use Rattle.text_plain.proofs.ExpandLaws.{said_added}
use Rattle.text_plain.proofs.expand.include_members.Goals as goal

pub returns : goal.returns
returns c = on_ok c.add_renamed.result _ _ c.add_renamed.ensures
    (said_added (map (used_name_of c.args.place.now.from.now) c.args.names.now) c.args.home (map (world_member_of c.args.place.now.whole.now) c.args.its.now) c.args.merged.now
    c.add_renamed.new.merged _ c.in_ok-table.ensures)
