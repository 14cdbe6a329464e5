use Rattle.text_trees.specs.TreesSeen.{world_member_of}
use Rattle.text_plain.specs.Merging.{members_seen}
use Rattle.text_plain.specs.Scopes.{heading_of}
use Rattle.text_plain.proofs.MergeLaws.{stands_there}
use Rattle.text_plain.proofs.merging.stands.Goals as goal

pub returns-in-Some : goal.returns-in-Some
returns-in-Some c = stands_there (heading_of c.args.merged.now.whole.now c.args.merged.now.heading) (members_seen c.args.merged.now)
    (world_member_of c.args.merged.now.whole.now c.args.member.now) c.args.merged.now.standing.keys c.requires c.in-Some.key c.contains.result c.in-Some.ensures c.contains.ensures
