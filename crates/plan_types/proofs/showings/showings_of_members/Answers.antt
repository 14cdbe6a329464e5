use Rattle.std.proofs.Common.{map}
use Rattle.plan_types.specs.Showings.{numbered_showing, showings_of_part}
use Rattle.read_rules.proofs.SightLaws.{all_added, one_added}
use Rattle.plan_types.proofs.showings.showings_of_members.Goals as goal

pub loop-member-preserved : goal.loop-member-preserved
loop-member-preserved c = one_added (λ m. showings_of_part m.part) c.args.members.now c.loop-member.member-index (map numbered_showing c.loop-member.all.items) c.loop-member.invariant _
    c.loop-member-test.true (map numbered_showing c.add_part.new.all.items) c.in_ok-add_part.ensures

pub returns : goal.returns
returns c = all_added (λ m. showings_of_part m.part) c.args.members.now c.loop-member.member-index (map numbered_showing c.loop-member.all.items) c.loop-member.invariant c.loop-member-test.false
