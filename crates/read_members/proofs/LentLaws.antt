-- Members that are lent of those that are read.
use Rattle.std.proofs.Common.{rules as std_rules, ◌≡◌, ℕ, List, [], ◌∷◌, map}
use Rattle.std.specs.List.{AllZip}
use Rattle.wit_model.specs.Text.{Text}
use Rattle.read_parts.specs.declared.members.{FollowedPart.FollowedPart, Member.Member as FollowedMember}
use Rattle.plan_meaning.specs.{NumberedMembers.Homes, NumberedRules.Fact, NumberedViews.Tables}
use Rattle.read_exports.specs.Members.{numbered_part}
use Rattle.read_exports.specs.declared.members.{Member.Member, Part.Part}
use Rattle.read_numbers.specs.NumberedInput.{tables_of}
use Rattle.read_members.specs.PartMembers.{IsMemberOf, IsPartOf}
use Rattle.read_members.specs.ReadMembers.{lent_member, parts_followed, parts_lent, IsMemberRead, IsPartRead, LentMembersAreMembers}

module _ (t : Tables) (known : ℕ → Fact) (h : Homes) where
  part_lent : (label : Text) (x : FollowedPart) (n : ℕ) (p : Part) → IsPartRead t known h label x n (numbered_part p) → parts_lent p ≡ parts_followed x → IsPartOf t x p
  part_lent label x n y read same = search std_rules

  all_lent : (xs : List FollowedMember) (ms : List Member) → AllZip (IsMemberRead t known h) xs (map lent_member ms) → AllZip (IsMemberOf t) xs ms
  all_lent [] [] read = tt
  all_lent [] (m ∷ ms) read = absurd read
  all_lent (x ∷ xs) [] read = absurd read
  all_lent (x ∷ xs) (m ∷ ms) read = ((read.0.label_is, part_lent x.label.now x.part m.package_number m.part read.0.part_is read.0.parts_are), all_lent xs ms read.1)

pub lent_members_are_members : LentMembersAreMembers
lent_members_are_members x known h ms read = all_lent (tables_of x) known h x.members.items ms read
