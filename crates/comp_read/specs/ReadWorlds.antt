-- A world by itself that was followed and read: with the interfaces of its package that it shows it is a package. A plan can be made of
-- that, and the plan means what the input does (WIT.md, "Worlds"; Component Model WIT.md, "Package Format").
use Rattle.std.specs.Prelude.{◌≡◌, true, List, [], ◌∷◌, map, Some}
use Rattle.wit_model.specs.Meaning.{WorldPackage}
use Rattle.comp_bytes.specs.Levels.{Piece}
use Rattle.comp_meaning.specs.{ByLevels.world_of_pieces, Reads.world_with}
use Rattle.plan_meaning.specs.{NumberedMembers.Homes, NumberedMembers.HomesStand, NumberedMembers.home_at, NumberedMembers.is_one_world, PlanRules.IsWorldPlan}
use Rattle.plan_meaning.specs.{NumberedViews.Tables, Plan.Plan, PlanMeaning.plan_world_meaning, ReadPlans.FitsInput}
use Rattle.read_homes.specs.Homes.{ArePackages}
use Rattle.read_exports.specs.Members.{numbered_members}
use Rattle.read_exports.specs.declared.members.Member.{Member}
use Rattle.read_rules.specs.Scopes.{numbered_scope}
use Rattle.read_rules.specs.declared.{scopes.Scope.Scope, tables.Fact.Fact as KeptFact}
use Rattle.plan_package.specs.PlanWhole.{MayBeWhole, PlansWhole}
use Rattle.read_parts.specs.declared.following.Followed.{Followed}
use Rattle.read_parts.specs.Input.{IsFollowed}
use Rattle.read_numbers.specs.{FactLaws.known_by, KnownScopes.AreKnown, NumberedInput.tables_of}
use Rattle.read_members.specs.ReadMembers.{AreRead, lent_member}
use Rattle.plan_laws.specs.{OneWorld.AreOwnInterfaces, OneWorld.IsWorldInput, Whole.IsPackageInput, WholePlan.IsWholeInput}
use Rattle.comp_read.specs.{ReadInput.AreHomesOf, ReadPackages.HaveSources}
use Rattle.comp_meaning.specs.Follow as follow
use Rattle.comp_meaning.specs.Reads as reads
use Rattle.read_exports.specs.declared.members.Part.TheVariants as parts

-- ---- what was read

-- What was followed of the sections was read as one member, a world, over tables of which each type is known, and over packages, each of which has its
-- source; and it stands by itself.
pub record IsReadWorld (pieces : List Piece) (x : Followed) (t : Tables) (facts : List KeptFact) (h : Homes) (m : Member) (w : Scope) : Type 0 where
  pub tables : t ≡ tables_of x
  pub followed : IsFollowed pieces x
  pub known : AreKnown x facts
  pub stand : HomesStand t h
  pub homes : AreHomesOf t h
  pub packages : ArePackages h.packages
  pub sources : HaveSources h.packages h.homes (m ∷ [])
  pub read : AreRead t (known_by facts) h x.members.items (map lent_member (m ∷ []))
  pub is : m.part ≡ parts.World w
  pub obeys : is_one_world t h (known_by facts) m.package_number m.label.now (numbered_scope w) ≡ true

-- these are the interfaces of its package that it shows
abbrev pub AreBeside : Tables → Homes → Member → Scope → List Member → Type 0
AreBeside t h m w own = AreOwnInterfaces t h m.package_number (numbered_scope w) (numbered_members own)

-- The world and these interfaces are a package, of which a plan can be made, and the sections mean the world.
pub record IsWholeWorld (pieces : List Piece) (t : Tables) (facts : List KeptFact) (h : Homes) (m : Member) (own : List Member) : Type 0 where
  pub members : List reads.Member
  pub input : IsPackageInput t h (known_by facts) m.package_number (m ∷ own) members
  pub whole : IsWholeInput t h m.package_number (m ∷ own)
  pub planned : MayBeWhole t (m ∷ own)
  pub scope : follow.Scope
  pub world : IsWorldInput t h (known_by facts) m.package_number m own scope
  pub means : world_of_pieces pieces ≡ world_with whole.identity m.label.now scope
  pub meaning : WorldPackage
  pub found : world_of_pieces pieces ≡ Some meaning

-- The plan is that of one world, and means what the sections do.
pub record IsWorldPlanOf (pieces : List Piece) (p : Plan) : Type 0 where
  pub plan : IsWorldPlan p
  pub means : plan_world_meaning p ≡ world_of_pieces pieces
  pub meaning : WorldPackage
  pub found : world_of_pieces pieces ≡ Some meaning

-- ---- laws

abbrev pub ReadWorldIsWhole : Type 0
ReadWorldIsWhole = (pieces : List Piece) (x : Followed) (t : Tables) (facts : List KeptFact) (h : Homes) (m : Member) (w : Scope)
    → IsReadWorld pieces x t facts h m w
    → (own : List Member) → AreBeside t h m w own → IsWholeWorld pieces t facts h m own

-- Each plan of the world and of these interfaces that fits in numbers of 32 bits.
abbrev pub ReadWorldPlansAreMeant : Type 0
ReadWorldPlansAreMeant = (pieces : List Piece) (x : Followed) (t : Tables) (facts : List KeptFact) (h : Homes) (m : Member) (w : Scope)
    → IsReadWorld pieces x t facts h m w
    → (own : List Member) → AreBeside t h m w own → (p : Plan) → PlansWhole t h.packages (home_at h) m.package_number (m ∷ own) p → FitsInput p
    → IsWorldPlanOf pieces p
