use Rattle.std.proofs.Common.{refl}
use Rattle.text_trees.specs.TreesSeen.{world_member_of}
use Rattle.text_plain.specs.Merging.{members_seen}
use Rattle.text_plain.specs.Scopes.{heading_of}
use Rattle.text_plain.proofs.MergeLaws.{pushed_new, pushed_none, becomes}
use Rattle.text_plain.proofs.merging.push.Goals as goal

pub returns-in_ok-push-in-Some : goal.returns-in_ok-push-in-Some
returns-in_ok-push-in-Some c = becomes c.args.merged.now.whole.now c.args.merged.now.heading c.args.merged.now.members.items c.args.member _ refl refl c.in_ok-push-in-Some.ensures.items
    (pushed_new (heading_of c.args.merged.now.whole.now c.args.merged.now.heading) (members_seen c.args.merged.now) (world_member_of c.args.merged.now.whole.now c.args.member)
    c.args.merged.now.standing.keys c.requires c.in-Some.key c.insert.new.self.keys c.in-Some.ensures c.in_ok-insert-in-Some.ensures.keys)

pub returns-in_ok-push-in-None : goal.returns-in_ok-push-in-None
returns-in_ok-push-in-None c = becomes c.args.merged.now.whole.now c.args.merged.now.heading c.args.merged.now.members.items c.args.member _ refl refl c.in_ok-push-in-None.ensures.items
    (pushed_none (heading_of c.args.merged.now.whole.now c.args.merged.now.heading) (members_seen c.args.merged.now) (world_member_of c.args.merged.now.whole.now c.args.member)
    c.args.merged.now.standing.keys c.requires c.in-None.ensures)
