use Rattle.std.proofs.Common.{◌≡◌, map, take}
use Rattle.read_members.specs.ReadMembers.{lent_member, read_member}
use Rattle.read_members.proofs.members.members_of.Given as goal

abbrev pub invariant-loop-member : goal.invariant-loop-member
invariant-loop-member l = map lent_member l.all.items ≡ map read_member (take l.member-index l.members)
