use Rattle.plan_types.specs.Showings.{signatures_of_part}
use Rattle.read_rules.proofs.SightLaws.{all_added, one_added}
use Rattle.plan_types.proofs.showings.signatures_of_members.Goals as goal

pub loop-member-preserved : goal.loop-member-preserved
loop-member-preserved c = one_added (λ m. signatures_of_part m.part) c.args.members.now c.loop-member.member-index (c.loop-member.all.items) c.loop-member.invariant _ c.loop-member-test.true
    (c.add_signatures_of_part.new.all.items) c.in_ok-add_signatures_of_part.ensures

pub returns : goal.returns
returns c = all_added (λ m. signatures_of_part m.part) c.args.members.now c.loop-member.member-index (c.loop-member.all.items) c.loop-member.invariant c.loop-member-test.false
