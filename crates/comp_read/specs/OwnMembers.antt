-- The interfaces of a package that views show, each once, as it is seen first (WIT.md, "Worlds"; Component Model WIT.md, "Package Format").
use Rattle.std.specs.Prelude.{◌≡◌, ℕ, true, false, List, [], ◌∷◌, ◌++◌, map, Option, Some, None}
use Rattle.std.specs.List.{AllByRecursion, Contains, filter, flat_map, list_any}
use Rattle.wit_model.specs.{Text.Text, Uses.has, Uses.once as each_once}
use Rattle.plan_meaning.specs.NumberedMembers.{Homes, NumberedMember, home_at, interface, is_interface_of, is_of_package}
use Rattle.plan_meaning.specs.NumberedViews.{NumberedSight, NumberedView, Tables, first_at}
use Rattle.plan_meaning.specs.NumberedWorlds.{NumberedScope, are_once, sights_of_scope}
use Rattle.read_rules.specs.declared.{scopes.Scope.Scope, tables.Tables.Tables as KeptTables}
use Rattle.read_rules.specs.{Scopes.numbered_scope, Tables.numbered_tables}
use Rattle.read_exports.specs.declared.members.Member.{Member}
use Rattle.read_exports.specs.Members.{numbered_members}
use Rattle.plan_laws.specs.OneWorld.{AreOwnInterfaces, place_of_part}

-- ---- all views

-- An interface of the package, by the first of these views of it, under its name.
pub record IsOwnAmong (h : Homes) (n : ℕ) (seen : List NumberedSight) (m : NumberedMember) : Type 0 where
  pub place : ℕ
  pub view : NumberedView
  pub part : m.part ≡ interface place view []
  pub package_ : m.package_ ≡ n
  pub home : home_at h place ≡ Some (n, m.label)
  pub first : NumberedSight
  pub shown : first_at place seen ≡ Some first
  pub is : first.view ≡ view

-- the places of the package among these views, each where it is seen first
abbrev pub own_places : Homes → ℕ → List NumberedSight → List ℕ
own_places h n seen = each_once (filter (is_of_package h n) (map (λ s. s.place) seen))

-- the places of the interfaces
abbrev pub places_of : List NumberedMember → List ℕ
places_of ms = flat_map (λ m. place_of_part m.part) ms

-- All that are seen, each once, in the order in which they are seen first.
pub record AreOwnAmong (h : Homes) (n : ℕ) (seen : List NumberedSight) (ms : List NumberedMember) : Type 0 where
  pub each : AllByRecursion (IsOwnAmong h n seen) ms
  pub all : (s : NumberedSight) → Contains seen s → is_of_package h n s.place ≡ true → list_any (λ m. is_interface_of s.place m.part) ms ≡ true
  pub once : are_once (flat_map (λ m. place_of_part m.part) ms) ≡ true
  pub order : places_of ms ≡ own_places h n seen

-- the interfaces of the package stand in the order in which the world shows them first
abbrev pub StandAsShown : Tables → Homes → ℕ → NumberedScope → List NumberedMember → Type 0
StandAsShown t h n w ms = places_of ms ≡ own_places h n (sights_of_scope t w)

-- ---- one view

-- the name of the interface of a place in the package, if it is of it
abbrev pub IsNameIn : Homes → ℕ → ℕ → Option Text → Type 0
IsNameIn h n p None = is_of_package h n p ≡ false
IsNameIn h n p (Some name) = home_at h p ≡ Some (n, name)

-- the interface of the view, under a name in the package
pub record IsOfView (n : ℕ) (label : Text) (s : NumberedSight) (m : NumberedMember) : Type 0 where
  pub label_is : m.label ≡ label
  pub package_ : m.package_ ≡ n
  pub part : m.part ≡ interface s.place s.view []

-- Its place is there already, or the interface comes behind the others.
pub data AddsInterface (n : ℕ) (label : Text) (s : NumberedSight) (places : List ℕ) (ms : List NumberedMember) : List ℕ → List NumberedMember → Type 0 where
  known : has places s.place ≡ true → AddsInterface n label s places ms places ms
  new : (m : NumberedMember) → has places s.place ≡ false → IsOfView n label s m → AddsInterface n label s places ms (places ++ s.place ∷ []) (ms ++ m ∷ [])

-- So it is for a view of the package, and one of another adds nothing.
pub data AddsView (h : Homes) (n : ℕ) (s : NumberedSight) (places : List ℕ) (ms : List NumberedMember) : List ℕ → List NumberedMember → Type 0 where
  another : is_of_package h n s.place ≡ false → AddsView h n s places ms places ms
  own : (label : Text) (later : List ℕ) (more : List NumberedMember) → home_at h s.place ≡ Some (n, label) → AddsInterface n label s places ms later more
      → AddsView h n s places ms later more

-- the members that were read are the interfaces of its own package that a world shows,
abbrev pub AreReadOwn : KeptTables → Homes → ℕ → Scope → List Member → Type 0
AreReadOwn t h n w ms = AreOwnInterfaces (numbered_tables t) h n (numbered_scope w) (numbered_members ms)

-- and they stand in the order in which it shows them first
abbrev pub StandAsReadOwn : KeptTables → Homes → ℕ → Scope → List Member → Type 0
StandAsReadOwn t h n w ms = StandAsShown (numbered_tables t) h n (numbered_scope w) (numbered_members ms)
