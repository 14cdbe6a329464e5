-- What was followed of an input, read as one world (WIT.md, "Worlds"; Component Model WIT.md, "Package Format").
use Rattle.std.specs.Prelude.{◌≡◌, ℕ, Bool, true, false, List, [], ◌∷◌, length, map, Option, Some, None}
use Rattle.plan_meaning.specs.NumberedMembers.{Homes, NumberedMember, NumberedPart, is_one_world}
use Rattle.plan_meaning.specs.{NumberedRules.Fact, NumberedViews.Tables}
use Rattle.read_exports.specs.Members.{numbered_members}
use Rattle.read_exports.specs.declared.members.Member.{Member}
use Rattle.read_rules.specs.Scopes.{numbered_scope}
use Rattle.read_rules.specs.declared.{scopes.Scope.Scope, tables.Fact.Fact as KeptFact}
use Rattle.read_parts.specs.declared.following.Followed.{Followed}
use Rattle.read_numbers.specs.FactLaws.{known_by}
use Rattle.read_members.specs.ReadMembers.{lent_member}
use Rattle.comp_read.specs.MembersRead.{AreReadOf}
use Rattle.plan_meaning.specs.NumberedMembers as members
use Rattle.read_exports.specs.declared.members.Part.TheVariants as parts

-- the one of these, or there aren't just one
abbrev pub IsOneMember : List Member → Option Member → Type 0
IsOneMember ms None = length ms ≡ 1 → ⊥
IsOneMember ms (Some m) = ms ≡ m ∷ []

-- whether they are one world, which stands by itself
abbrev pub is_alone : Tables → Homes → (ℕ → Fact) → NumberedMember → NumberedPart → Bool
is_alone t h known m (members.world w) = is_one_world t h known m.package_ m.label w
is_alone t h known m (members.interface p v imports) = false

abbrev pub are_one_world : Tables → Homes → (ℕ → Fact) → List NumberedMember → Bool
are_one_world t h known [] = false
are_one_world t h known (m ∷ []) = is_alone t h known m m.part
are_one_world t h known (m ∷ n ∷ ms) = false

-- The one world that they are, with what it shows.
pub record IsAlone (t : Tables) (h : Homes) (known : ℕ → Fact) (ms : List Member) (m : Member) (w : Scope) : Type 0 where
  pub one : ms ≡ m ∷ []
  pub is : m.part ≡ parts.World w
  pub obeys : is_one_world t h known m.package_number m.label.now (numbered_scope w) ≡ true

abbrev pub IsOneWorld : Tables → Homes → (ℕ → Fact) → List Member → Option (Member × Scope) → Type 0
IsOneWorld t h known ms None = are_one_world t h known (numbered_members ms) ≡ false
IsOneWorld t h known ms (Some x) = IsAlone t h known ms x.0 x.1

-- The world was read of what was followed, and stands by itself.
pub record IsWorldReadOf (x : Followed) (t : Tables) (facts : List KeptFact) (h : Homes) (m : Member) (w : Scope) : Type 0 where
  pub read : AreReadOf x t facts h (map lent_member (m ∷ []))
  pub is : m.part ≡ parts.World w
  pub obeys : is_one_world t h (known_by facts) m.package_number m.label.now (numbered_scope w) ≡ true
