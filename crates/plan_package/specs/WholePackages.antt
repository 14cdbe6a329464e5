-- The packages of a plan, with what stands in each by name (WIT.md, "Package declaration"; Component Model WIT.md, "Package Format").
use Rattle.std.specs.Prelude.{◌≡◌, ◌<◌, ◌+◌, ◌==◌, ℕ, cond, List, [], ◌∷◌, ◌++◌, length, map, Option, Some, None, slice_get, Vec}
use Rattle.std.specs.{Borrow.Bor, List.AllZip, List.flat_map, Option.option_map_or}
use Rattle.std.specs.declared.alloc.Global.{Global}
use Rattle.wit_model.specs.declared.model.{InterfaceId.InterfaceId, WorldId.WorldId}
use Rattle.wit_model.specs.{Names.PackageIdentity, Text.Text}
use Rattle.read_exports.specs.declared.members.{Member.Member, Part.Part}
use Rattle.plan_types.specs.PlannedTypes.{number_in}
use Rattle.read_rules.specs.declared.scopes.Scope.{Scope}
use Rattle.plan_meaning.specs.Plan.{PlannedPackage}
use Rattle.plan_package.specs.{WholeInterfaces.Home, WholeWorlds.IsAmong, WholeWorlds.worlds_in}
use Rattle.read_exports.specs.declared.members.Part.TheVariants as parts

-- the number of an interface or of a world, under its name
abbrev pub numbered_interface : Bor Text × InterfaceId → Text × ℕ
numbered_interface e = (e.0.now, e.1.0)

abbrev pub numbered_world : Bor Text × WorldId → Text × ℕ
numbered_world e = (e.0.now, e.1.0)

-- ---- the main package

-- a place with its label
abbrev pub labelled_place : Bor (List ℕ) × ℕ → Text × ℕ
labelled_place x = (x.0.now, x.1)

-- the place of the interface that is exported under a label, if it is one
abbrev pub interface_in_part : Text → Part → List (Text × ℕ)
interface_in_part label (parts.World w) = []
interface_in_part label (parts.Interface p v imports) = (label, p) ∷ []

-- the places of the interfaces that are exported, in order, with their labels
abbrev pub interfaces_in : List Member → List (Text × ℕ)
interfaces_in ms = flat_map (λ m. interface_in_part m.label.now m.part) ms

-- the interface under its label, by the number of its place
abbrev pub ListsPlace : List ℕ → Text × ℕ → Text × ℕ → Type 0
ListsPlace places x e = (e.0 ≡ x.0) × (number_in places x.1 ≡ Some e.1)

-- the place of an interface is among these
abbrev pub IsPlaced : List ℕ → Text × ℕ → Type 0
IsPlaced places x = IsAmong places x.1

-- worlds under their labels, by their order, where the first has this number
abbrev pub numbered_labels : ℕ → List (Text × Scope) → List (Text × ℕ)
numbered_labels n [] = []
numbered_labels n (w ∷ ws) = (w.0, n) ∷ numbered_labels (n + 1) ws

-- ---- other packages

-- the interface of this number in the package, by its name, if its home is there
abbrev pub entry_of : ℕ → ℕ → Option Home → List (Text × ℕ)
entry_of q n None = []
entry_of q n (Some h) = cond (h.0 == q) ((h.1, n) ∷ []) []

-- the interfaces in the package, by their names, of places whose first has this number
abbrev pub entries_from : (ℕ → Option Home) → ℕ → ℕ → List ℕ → List (Text × ℕ)
entries_from homes q n [] = []
entries_from homes q n (p ∷ ps) = entry_of q n (homes p) ++ entries_from homes q (n + 1) ps

abbrev pub Entries : Type 0
Entries = Vec (Bor Text × InterfaceId) Global

-- what is listed for a package, if there is one of this number
abbrev pub listed_at : List Entries → ℕ → List (Text × ℕ)
listed_at table q = option_map_or (λ v. map numbered_interface v.items) (slice_get table q) []

-- The interface of this number is listed for the package of its home.
pub record ListsEntry (home : Option Home) (n : ℕ) (old new : List Entries) : Type 0 where
  pub many : length new ≡ length old
  pub each : (q : ℕ) → q < length old → listed_at new q ≡ listed_at old q ++ entry_of q n home

-- Each of so many packages has the interfaces whose homes are there.
abbrev pub AreListed : (ℕ → Option Home) → List ℕ → List Entries → Type 0
AreListed homes places table = (q : ℕ) → q < length table → listed_at table q ≡ entries_from homes q 0 places

-- ---- all packages

-- the main package: the interfaces and the worlds that are exported, in order
pub record IsMainPackage (identity : PackageIdentity) (places : List ℕ) (ms : List Member) (k : PlannedPackage) : Type 0 where
  pub is : k.identity ≡ identity
  pub interfaces : AllZip (ListsPlace places) (interfaces_in ms) k.interfaces
  pub worlds : k.worlds ≡ numbered_labels 0 (worlds_in ms)

-- another one, which has these interfaces
pub record IsForeignPackage (identity : PackageIdentity) (es : List (Text × ℕ)) (k : PlannedPackage) : Type 0 where
  pub is : k.identity ≡ identity
  pub interfaces : k.interfaces ≡ es
  pub worlds : k.worlds ≡ []

-- the package of this number, which has these interfaces if it isn't the main one
pub data PlansPackage (packages : List PackageIdentity) (main : ℕ) (places : List ℕ) (ms : List Member) (es : List (Text × ℕ)) (n : ℕ)
    (k : PlannedPackage) : Type 0 where
  the_main : (identity : PackageIdentity) → n ≡ main → slice_get packages n ≡ Some identity → IsMainPackage identity places ms k
      → PlansPackage packages main places ms es n k
  another : (identity : PackageIdentity) → (n ≡ main → ⊥) → slice_get packages n ≡ Some identity → IsForeignPackage identity es k
      → PlansPackage packages main places ms es n k

-- So many packages, each of which has the interfaces that are listed for it, if it isn't the main one.
pub record ArePlanned (packages : List PackageIdentity) (main : ℕ) (places : List ℕ) (ms : List Member) (listed : ℕ → List (Text × ℕ)) (count : ℕ)
    (ks : List PlannedPackage) : Type 0 where
  pub many : length ks ≡ count
  pub each : (n : ℕ) (k : PlannedPackage) → slice_get ks n ≡ Some k → PlansPackage packages main places ms (listed n) n k

-- All packages in their order: the main one has what is exported, and each other one the interfaces whose homes are there.
abbrev pub PlansPackages : List PackageIdentity → (ℕ → Option Home) → ℕ → List ℕ → List Member → List PlannedPackage → Type 0
PlansPackages packages homes main places ms ks = ArePlanned packages main places ms (λ n. entries_from homes n 0 places) (length packages) ks
