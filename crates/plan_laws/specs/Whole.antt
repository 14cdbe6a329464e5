-- A plan, whole, of what was followed and obeys the rules of a package (Component Model WIT.md, "Package Format").
use Rattle.std.specs.{Prelude.◌≡◌, Prelude.ℕ, Prelude.true, Prelude.List, Prelude.None, List.AllByRecursion}
use Rattle.read_shown.specs.Kinds.{NamesHaveKinds}
use Rattle.plan_meaning.specs.NumberedMembers.{Homes, NumberedMember, NumberedPart, IsKnownSight, are_package, home_at, interface, sights_of_members, world}
use Rattle.plan_meaning.specs.{NumberedRules.Fact, NumberedViews.Tables, NumberedViews.path_at, NumberedWorlds.ScopeStands}
use Rattle.read_exports.specs.Members.{numbered_members}
use Rattle.read_exports.specs.declared.members.Member.{Member}
use Rattle.plan_type_laws.specs.{FormsObeyed.LengthsFit, ShownMarks.ArePlaced}
use Rattle.plan_laws.specs.ShownNames.{IsInput}
use Rattle.comp_meaning.specs.Reads as reads

-- what is known of the parts of a world is true
abbrev pub PartIsKnown : Tables → (ℕ → Fact) → NumberedPart → Type 0
PartIsKnown t known (world w) = ScopeStands t known w
PartIsKnown t known (interface p v imports) = Unit {0}

-- What was followed, of a package of this number: what is known of its types is true, and each name is a resource wherever it is met, or
-- nowhere. Each world and each inline interface has a place of its own, and only a path has a home. The rules of reading on packages hold.
pub record IsPackageInput (t : Tables) (h : Homes) (known : ℕ → Fact) (n : ℕ) (ms : List Member) (members : List reads.Member) : Type 0 where
  pub input : IsInput t h ms members
  pub alone : (q : ℕ) → path_at t q ≡ None → home_at h q ≡ None
  pub kinds : NamesHaveKinds members
  pub placed : ArePlaced t ms
  pub lengths : LengthsFit t
  pub sights : AllByRecursion (IsKnownSight t known) (sights_of_members t (numbered_members ms))
  pub scopes : AllByRecursion (λ (m : NumberedMember). PartIsKnown t known m.part) (numbered_members ms)
  pub obeys : are_package t h known n (numbered_members ms) ≡ true
