use Rattle.std.proofs.Common.{◌≡◌, drop}
use Rattle.std.specs.List.{flat_map}
use Rattle.read_exports.specs.Members.{numbered_members, numbered_part}
use Rattle.plan_types.specs.Orders.{homes_met, home_of_part, joined_all}
use Rattle.plan_types.proofs.orders.homes_of_members.Given as goal

-- those so far, with those of the members that are left, are all
abbrev pub invariant-loop-member : goal.invariant-loop-member
invariant-loop-member l = joined_all l.homes.keys (flat_map (λ m. home_of_part (numbered_part m.part)) (drop l.member-index l.members)) ≡ homes_met (numbered_members l.members)
