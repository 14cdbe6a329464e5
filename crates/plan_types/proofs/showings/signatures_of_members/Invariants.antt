use Rattle.std.proofs.Common.{◌≡◌, ◌++◌, drop}
use Rattle.std.specs.List.{flat_map}
use Rattle.plan_types.specs.Showings.{signatures_of_part}
use Rattle.plan_types.proofs.showings.signatures_of_members.Given as goal

-- those that were added, and those of what is left, are all
abbrev pub invariant-loop-member : goal.invariant-loop-member
invariant-loop-member l = l.all.items ++ flat_map (λ m. signatures_of_part m.part) (drop l.member-index l.members) ≡ flat_map (λ m. signatures_of_part m.part) l.members
