-- A plan, whole, of what is exported: the types that are used, all interfaces that are met, the worlds and the packages (Component Model WIT.md,
-- "Package Format").
use Rattle.std.specs.{Prelude.◌≡◌, Prelude.ℕ, Prelude.Bool, Prelude.List, Prelude.Option, List.AllByRecursion, List.AllZip}
use Rattle.wit_model.specs.declared.model.TypeOwner.{TypeOwner}
use Rattle.wit_model.specs.Names.{PackageIdentity}
use Rattle.plan_meaning.specs.{NumberedViews.Tables, Plan.Plan}
use Rattle.plan_parts.specs.Kept.{AreMarked}
use Rattle.read_exports.specs.declared.members.Member.{Member}
use Rattle.read_exports.specs.Members.{numbered_members}
use Rattle.plan_types.specs.FirstShown.{first_showing}
use Rattle.plan_types.specs.{Orders.homes_met, Orders.places_met, Showings.NumberedShowing, Showings.showings_of_members, Showings.signatures_of_members}
use Rattle.plan_types.specs.{PlannedTypes.owner_in, PlannedTypes.MayBePlanned, PlannedTypes.PlansType, Used.used_parts, Used.AreUsed, Used.TypesFall}
use Rattle.plan_package.specs.{Views.views_of_members, WholeInterfaces.Home, WholeInterfaces.PlansPlace, WholeInterfaces.ViewIsKept}
use Rattle.plan_package.specs.{WholePackages.PlansPackages, WholeWorlds.worlds_in, WholeWorlds.PlansWorld, WholeWorlds.WorldIsKept, WholeWorlds.WorldIsPlaced}

-- the places of the interfaces that are met, in the order of their numbers
abbrev pub places_in : List Member → List ℕ
places_in ms = places_met (numbered_members ms)

-- what the type of this number is shown as first
abbrev pub shown_first : List Member → ℕ → Option NumberedShowing
shown_first ms n = first_showing n (showings_of_members ms)

-- whose the names of a place are
abbrev pub owners_in : List Member → ℕ → TypeOwner
owners_in ms = owner_in (places_in ms) (homes_met (numbered_members ms))

-- The types that are kept are those that are used by what is shown.
pub record AreKeptFor (t : Tables) (ms : List Member) (kept : List ℕ) : Type 0 where
  pub marks : List Bool
  pub used : AreUsed t (used_parts t (showings_of_members ms) (signatures_of_members ms)) marks
  pub marked : AreMarked marks kept

-- Each of them may be planned, and all that is shown is over them.
pub record IsKeptWhole (t : Tables) (ms : List Member) (kept : List ℕ) : Type 0 where
  pub types : AllByRecursion (MayBePlanned t kept (shown_first ms)) kept
  pub views : AllByRecursion (λ s. ViewIsKept t kept s.view) (views_of_members (numbered_members ms))
  pub worlds : AllByRecursion (λ w. WorldIsKept t kept w.1) (worlds_in ms)

-- A plan can be made of what is exported: parts stand before what they are parts of, all is over the types that are used, and the interfaces that
-- worlds import and export are among those that are met.
pub record MayBeWhole (t : Tables) (ms : List Member) : Type 0 where
  pub fall : TypesFall t
  pub kept : (kept : List ℕ) → AreKeptFor t ms kept → IsKeptWhole t ms kept
  pub placed : AllByRecursion (λ w. WorldIsPlaced (places_in ms) w.1) (worlds_in ms)

-- The plan of what is exported: the types that are used, the interfaces of all places that are met, the worlds, and all packages.
pub record PlansWhole (t : Tables) (identities : List PackageIdentity) (homes : ℕ → Option Home) (n : ℕ) (ms : List Member) (p : Plan) : Type 0 where
  pub kept : List ℕ
  pub kept_for : AreKeptFor t ms kept
  pub types : AllZip (PlansType t kept (shown_first ms) (owners_in ms)) kept p.types
  pub interfaces : AllZip (PlansPlace t kept n homes (views_of_members (numbered_members ms))) (places_in ms) p.interfaces
  pub worlds : AllZip (PlansWorld t kept (places_in ms) n) (worlds_in ms) p.worlds
  pub packages : PlansPackages identities homes n (places_in ms) ms p.packages
  pub main : p.main ≡ n
