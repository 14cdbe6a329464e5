use Rattle.text_names.proofs.PathLaws.{needs_turn, refused_later}
use Rattle.text_names.proofs.needs.needs_of_members.Goals as goal

pub returns-in-Err-clause-refuses : goal.returns-in-Err-clause-refuses
returns-in-Err-clause-refuses c = refused_later c.args.sources.now c.args.text c.args.own c.args.members.now c.loop-member.member-index c.member-item.result c.in-Err.fault c.loop-member-test.true
    c.member-item.is
    c.in-Err.ensures.err

pub loop-member-preserved : goal.loop-member-preserved
loop-member-preserved c = needs_turn c.args.sources.now c.args.text c.args.own c.args.members.now c.loop-member.member-index c.member-item.result c.loop-member-test.true c.member-item.is
    c.loop-member.needs.items c.add_need.new.needs.items c.loop-member.invariant c.in-Ok.ensures.ok
