use Rattle.std.proofs.Common.{◌≡◌, ◌++◌, map, drop}
use Rattle.std.specs.List.{flat_map}
use Rattle.plan_meaning.specs.NumberedMembers.{sights_of_members, sights_of_part}
use Rattle.read_rules.specs.{Sights.numbered_sight, Tables.numbered_tables}
use Rattle.read_exports.specs.Members.{numbered_members, numbered_part}
use Rattle.read_exports.proofs.sights.sights_of_members.Given as goal

-- those that were added, and those of the members that are left, are all
abbrev pub invariant-loop-member : goal.invariant-loop-member
invariant-loop-member l = map numbered_sight l.sights.items ++ flat_map (λ m. sights_of_part (numbered_tables l.tables) (numbered_part m.part)) (drop l.member-index l.members)
    ≡ sights_of_members (numbered_tables l.tables) (numbered_members l.members)
