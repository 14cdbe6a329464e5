use Rattle.std.proofs.Common.{refl}
use Rattle.wit_text.proofs.StageLaws.{is_at, types_all, types_none, types_step}
use Rattle.wit_text.proofs.externs.add_types.Goals as goal

pub loop-member-init : goal.loop-member-init
loop-member-init c = types_none _

pub loop-member-preserved : goal.loop-member-preserved
loop-member-preserved c =
    types_step c.args.members.now c.loop-member.member-index c.member-item.result
    (is_at c.args.members.now c.args.members.now c.loop-member.member-index c.member-item.result refl c.loop-member-test.true c.member-item.is)
    c.loop-member.invariant
    c.in_ok-add_types_of.ensures.adds

pub returns : goal.returns
returns c = record { adds = types_all c.args.members.now c.loop-member.member-index c.loop-member-test.false c.loop-member.invariant }
