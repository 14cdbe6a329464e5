-- A package that was followed and read: a plan can be made of it, which means what the input does (Component Model WIT.md, "Package Format").
use Rattle.std.specs.Prelude.{◌≡◌, ◌<◌, ◌⊎◌, ℕ, true, List, [], length, map, Option}
use Rattle.wit_model.specs.{Names.PackageIdentity, Text.Text}
use Rattle.comp_bytes.specs.Levels.{Piece}
use Rattle.comp_meaning.specs.ByLevels.{package_of_pieces}
use Rattle.plan_meaning.specs.{NumberedMembers.Homes, NumberedMembers.HomesStand, NumberedMembers.are_package, NumberedMembers.home_at, PlanRules.IsPackagePlan}
use Rattle.plan_meaning.specs.{NumberedViews.Tables, Plan.Plan, PlanMeaning.plan_meaning, ReadPlans.FitsInput}
use Rattle.read_homes.specs.Homes.{ArePackages, HasPlace, HaveReasons}
use Rattle.read_exports.specs.Members.{numbered_members}
use Rattle.read_exports.specs.declared.members.Member.{Member}
use Rattle.read_rules.specs.declared.tables.Fact.{Fact as KeptFact}
use Rattle.plan_package.specs.PlanWhole.{MayBeWhole, PlansWhole}
use Rattle.read_parts.specs.declared.following.Followed.{Followed}
use Rattle.read_parts.specs.Input.{IsFollowed}
use Rattle.read_numbers.specs.{FactLaws.known_by, KnownScopes.AreKnown, NumberedInput.tables_of}
use Rattle.read_members.specs.ReadMembers.{AreForMembers, AreRead, lent_member}
use Rattle.plan_laws.specs.WholePlan.{IsOfMember, IsWholeInput}
use Rattle.comp_read.specs.ReadInput.{AreHomesOf, IsReadInput}
use Rattle.comp_meaning.specs.Reads as reads

-- ---- what was read

-- each package is that of something that is exported, or of a place
abbrev pub HaveSources : List PackageIdentity → List (Option (ℕ × Text)) → List Member → Type 0
HaveSources packages homes ms = (c : ℕ) → c < length packages → IsOfMember ms c ⊎ HasPlace homes c

-- What was followed of the sections was read as members, over tables of which each type is known, and over packages, each of which has its source;
-- and it is a package: the one of this number.
pub record IsReadPackage (pieces : List Piece) (x : Followed) (t : Tables) (facts : List KeptFact) (h : Homes) (n : ℕ) (ms : List Member) : Type 0 where
  pub tables : t ≡ tables_of x
  pub followed : IsFollowed pieces x
  pub known : AreKnown x facts
  pub stand : HomesStand t h
  pub homes : AreHomesOf t h
  pub packages : ArePackages h.packages
  pub sources : HaveSources h.packages h.homes ms
  pub read : AreRead t (known_by facts) h x.members.items (map lent_member ms)
  pub obeys : are_package t h (known_by facts) n (numbered_members ms) ≡ true

-- The plan is that of a package, and means what the sections do.
pub record IsPlanOf (pieces : List Piece) (p : Plan) : Type 0 where
  pub plan : IsPackagePlan p
  pub means : plan_meaning p ≡ package_of_pieces pieces

-- ---- laws

-- Members that are read are those of what was followed, for what the rules of reading make of it.
abbrev pub ReadMembersAreInput : Type 0
ReadMembersAreInput = (pieces : List Piece) (x : Followed) → IsFollowed pieces x → (facts : List KeptFact) → AreKnown x facts → (h : Homes)
    → HomesStand (tables_of x) h
    → (ms : List Member) → AreRead (tables_of x) (known_by facts) h x.members.items (map lent_member ms) → (members : List reads.Member)
    × IsReadInput pieces x h ms members

-- Packages that are numbered as places are looked up, and then as members are read, have their sources.
abbrev pub ReadPackagesHaveSources : Type 0
ReadPackagesHaveSources = (first packages : List PackageIdentity) (homes : List (Option (ℕ × Text))) (ms : List Member) → HaveReasons [] first homes
    → AreForMembers first packages (map lent_member ms) → HaveSources packages homes ms

abbrev pub ReadPackageIsWhole : Type 0
ReadPackageIsWhole = (pieces : List Piece) (x : Followed) (t : Tables) (facts : List KeptFact) (h : Homes) (n : ℕ) (ms : List Member)
    → IsReadPackage pieces x t facts h n ms → IsWholeInput t h n ms

abbrev pub ReadMayBePlanned : Type 0
ReadMayBePlanned = (pieces : List Piece) (x : Followed) (t : Tables) (facts : List KeptFact) (h : Homes) (n : ℕ) (ms : List Member)
    → IsReadPackage pieces x t facts h n ms → MayBeWhole t ms

abbrev pub ReadPlansAreMeant : Type 0
ReadPlansAreMeant = (pieces : List Piece) (x : Followed) (t : Tables) (facts : List KeptFact) (h : Homes) (n : ℕ) (ms : List Member)
    → IsReadPackage pieces x t facts h n ms
    → (p : Plan) → PlansWhole t h.packages (home_at h) n ms p → FitsInput p → IsPlanOf pieces p
