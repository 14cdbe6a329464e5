use Rattle.std.proofs.Common.{[], ap, ◌∙◌}
use Rattle.std.specs.List.{flat_map}
use Rattle.read_exports.specs.Members.{numbered_member, numbered_part}
use Rattle.plan_types.specs.Orders.{home_of_part, joined_all}
use Rattle.plan_types.proofs.OrderLaws.{all_places, one_place}
use Rattle.plan_types.proofs.orders.homes_of_members.Goals as goal
use Rattle.base_lemmas.proofs.Lists.{flat_mapped}

pub loop-member-init : goal.loop-member-init
loop-member-init c = ap (λ ks. joined_all ks (flat_map (λ m. home_of_part (numbered_part m.part)) c.args.members.now)) c.new-homes.ensures.empty ∙ ap (joined_all [])
    (flat_mapped (λ m. home_of_part m.part) numbered_member c.args.members.now)

pub loop-member-preserved : goal.loop-member-preserved
loop-member-preserved c = one_place (λ m. home_of_part (numbered_part m.part)) c.args.members.now c.loop-member.member-index _ c.loop-member-test.true c.loop-member.homes.keys _
    c.loop-member.invariant c.add_home.new.homes.keys c.in_ok-add_home.ensures

pub returns : goal.returns
returns c = all_places (λ m. home_of_part (numbered_part m.part)) c.args.members.now c.loop-member.member-index c.loop-member-test.false c.loop-member.homes.keys _ c.loop-member.invariant
