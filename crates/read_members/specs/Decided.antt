-- What the pieces of an input mean as a package and as one world, by what was read of its members (Component Model WIT.md, "Package Format").
use Rattle.std.specs.Prelude.{◌≡◌, ℕ, Bool, true, false, List, [], ◌∷◌, map, slice_get, Option, Some, None}
use Rattle.std.specs.List.{AllByRecursion, AllZip}
use Rattle.wit_model.specs.Names.{PackageIdentity}
use Rattle.comp_bytes.specs.Levels.{Piece}
use Rattle.comp_meaning.specs.{ByLevels.package_of_pieces, Follow.provided}
use Rattle.plan_meaning.specs.NumberedMembers.{Homes, HomesStand, IsKnownSight, IsMember, NumberedMember, are_package, package_shown, sights_of_members}
use Rattle.plan_meaning.specs.{NumberedRules.Fact, NumberedViews.Tables}
use Rattle.read_parts.specs.declared.following.Followed.{Followed}
use Rattle.read_parts.specs.Input.{IsFollowed}
use Rattle.read_rules.specs.declared.tables.Fact.{Fact as KeptFact}
use Rattle.read_numbers.specs.{FactLaws.known_by, KnownScopes.AreKnown, NumberedInput.tables_of}
use Rattle.read_members.specs.ReadMembers.{AreRead}
use Rattle.comp_meaning.specs.Reads as reads

-- whether they are a package: that of the first
abbrev pub are_one_package : Tables → Homes → (ℕ → Fact) → List NumberedMember → Bool
are_one_package t h known [] = false
are_one_package t h known (m ∷ ms) = are_package t h known m.package_ (m ∷ ms)

-- The pieces mean the package that the members show, if these are one.
pub record IsPackageDecided (pieces : List Piece) (t : Tables) (h : Homes) (known : ℕ → Fact) (m : NumberedMember) (ms : List NumberedMember) : Type 0 where
  pub identity : PackageIdentity
  pub at : slice_get h.packages m.package_ ≡ Some identity
  pub members : List reads.Member
  pub shown : AllZip (IsMember t h) (m ∷ ms) members
  pub decided : package_of_pieces pieces ≡ provided (are_package t h known m.package_ (m ∷ ms)) (package_shown identity members)

abbrev pub ArePackageDecided : List Piece → Tables → Homes → (ℕ → Fact) → List NumberedMember → Type 0
ArePackageDecided pieces t h known [] = package_of_pieces pieces ≡ None
ArePackageDecided pieces t h known (m ∷ ms) = IsPackageDecided pieces t h known m ms

-- ---- laws

-- What is known of each part is true wherever members that are read are over it.
abbrev pub MembersAreKnown : Type 0
MembersAreKnown = (pieces : List Piece) (x : Followed) → IsFollowed pieces x → (facts : List KeptFact) → AreKnown x facts → (h : Homes)
    → (ms : List (NumberedMember × List (Option ℕ)))
    → AreRead (tables_of x) (known_by facts) h x.members.items ms
    → AllByRecursion (IsKnownSight (tables_of x) (known_by facts)) (sights_of_members (tables_of x) (map (λ m. m.0) ms))

-- Members that are read decide what the pieces mean as a package.
abbrev pub PackagesAreDecided : Type 0
PackagesAreDecided = (pieces : List Piece) (x : Followed) → IsFollowed pieces x → (facts : List KeptFact) → AreKnown x facts → (h : Homes)
    → HomesStand (tables_of x) h → (ms : List (NumberedMember × List (Option ℕ)))
    → AreRead (tables_of x) (known_by facts) h x.members.items ms → ArePackageDecided pieces (tables_of x) h (known_by facts) (map (λ m. m.0) ms)
