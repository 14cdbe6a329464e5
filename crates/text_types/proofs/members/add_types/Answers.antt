use Rattle.text_types.proofs.AddedLaws.{members_more}
use Rattle.text_types.proofs.members.add_types.Goals as goal

pub loop-member-preserved : goal.loop-member-preserved
loop-member-preserved c =
    members_more c.args.members.now c.loop-member.member-index c.member-item.result c.loop-member.invariant c.in_ok-add_types_of.ensures.adds
    c.loop-member-test.true c.member-item.is
