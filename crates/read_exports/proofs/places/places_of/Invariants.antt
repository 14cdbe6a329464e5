use Rattle.std.proofs.Common.{◌≡◌, ◌||◌, ℕ, drop}
use Rattle.std.specs.List.{list_any}
use Rattle.wit_model.specs.Uses.{has}
use Rattle.plan_meaning.specs.NumberedMembers.{is_interface_of}
use Rattle.read_exports.specs.Members.{numbered_members, numbered_part}
use Rattle.read_exports.proofs.places.places_of.Given as goal

-- those that were added, and those of the members that are left, are all
abbrev pub invariant-loop-member : goal.invariant-loop-member
invariant-loop-member l =
    (p : ℕ) → (has l.places.keys p || list_any (λ m. is_interface_of p (numbered_part m.part)) (drop l.member-index l.members)) ≡ list_any (λ m. is_interface_of p m.part) (numbered_members l.members)
