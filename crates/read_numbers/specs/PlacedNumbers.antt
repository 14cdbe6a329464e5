-- Names in their places, in numbers (Component Model Binary.md, "Index Spaces" and "Import and Export Definitions"). These are the places
-- that what was followed is over, what stands for a name under which it is shown, and the order in which names came into the table.
use Rattle.std.specs.Prelude.{◌≡◌, ◌⊎◌, ◌<◌, ◌≤◌, ◌+◌, ℕ, true, List, length, map, slice_get, Option, Some, None}
use Rattle.std.specs.List.{AllByRecursion, AllZip}
use Rattle.wit_model.specs.{Text.Text, Tree.Form}
use Rattle.comp_bytes.specs.Levels.{Piece}
use Rattle.comp_meaning.specs.Rules.{distinct}
use Rattle.plan_meaning.specs.FollowedNumbers.{IsOneOf}
use Rattle.plan_meaning.specs.{NumberedRules.IsSeenFrom, PlanRules.are_rising, PlanRules.is_form, Shapes.named_shape, Shapes.node_shape}
use Rattle.plan_meaning.specs.NumberedViews.{Tables, path_at, function_at, value, resource, AllOf, AreTables, HasNameIn, IsOutside, IsPart, NumberedSlot, NumberedType, NumberedView, PartsOf, ViewPasses}
use Rattle.plan_meaning.specs.NumberedWorlds.{instance, function, declares, place_of_key, HasPath, KeyStands, NumberedInstance, NumberedKey, NumberedScope, NumberedSeen, NumberedShown}
use Rattle.read_parts.specs.declared.{following.Followed.Followed, members.Member.Member}
use Rattle.read_parts.specs.{Input.IsFollowed, Members.scope_of}
use Rattle.read_numbers.specs.{NumberedInput.tables_of, NumberedParts.numbered_scope}

-- ---- the places that a part is over

-- each name in the part is of the place, or of one with a path
abbrev pub IsMetFrom : Tables → ℕ → ℕ → Type 0
IsMetFrom t p k = (q : ℕ) → HasNameIn t.shapes k q → (q ≡ p) ⊎ HasPath t q

abbrev pub IsMetPart : Tables → ℕ → ℕ → Type 0
IsMetPart t p k = IsPart t k × IsMetFrom t p k

-- Such a part is seen from the place, and where that has a path, all its names are of places with one.
abbrev pub MetPartsAreSeen : Type 0
MetPartsAreSeen = (t : Tables) → AreTables t → (p k : ℕ) → IsMetPart t p k → IsSeenFrom t p k × (HasPath t p → IsOutside t k)

-- ---- views

-- the part that the index of a type stands for
abbrev pub part_of : NumberedSlot → ℕ
part_of (value k) = k
part_of (resource k) = k

-- the type stands for its name in the place, which has this number
abbrev pub IsNumbered : Tables → ℕ → NumberedType → ℕ → Type 0
IsNumbered t place x n = (part_of x.slot ≡ 14 + n) × (slice_get t.shapes n ≡ Some (named_shape place x.name))

-- The view is over its own place and places with a path, and each type stands for its name.
pub record IsPlacedView (t : Tables) (place : ℕ) (v : NumberedView) : Type 0 where
  pub parts : ViewPasses t (IsMetPart t place) v
  pub numbers : List ℕ
  pub named : AllZip (IsNumbered t place) v.types numbers

-- The names of the view came into the table in its order, each behind what it is declared as.
pub record IsRisingView (t : Tables) (place : ℕ) (v : NumberedView) : Type 0 where
  pub numbers : List ℕ
  pub named : AllZip (IsNumbered t place) v.types numbers
  pub rise : are_rising numbers ≡ true
  pub behind : AllZip (λ (x : NumberedType) n. AllOf (λ k. k < 14 + n) x.declared) v.types numbers

-- ---- imports and exports

-- an import or an export is over the scope's own place and places with a path, and an instance over the place of its key
abbrev pub IsPlacedItem : Tables → ℕ → NumberedShown → Type 0
IsPlacedItem t home (instance k v) = KeyStands t k × IsPlacedView t (place_of_key k) v
IsPlacedItem t home (function n) = (n < length t.functions) × PartsOf (IsMetPart t home) (function_at t n)
IsPlacedItem t home (declares d) = AllOf (IsMetPart t home) d

-- an earlier import of a type has the name
pub record IsTypeBefore (imports : List NumberedSeen) (j : ℕ) (name : Text) : Type 0 where
  pub number : ℕ
  pub earlier : number < j
  pub seen : NumberedSeen
  pub at : slice_get imports number ≡ Some seen
  pub key : seen.key ≡ name
  pub declared : Option ℕ
  pub is : seen.shown ≡ declares declared

-- the name is the last of so many types, behind what it is declared as and behind all that was there before
pub record IsLastType (t : Tables) (home : ℕ) (counts : List ℕ) (j c : ℕ) (name : Text) (d : Option ℕ) : Type 0 where
  pub number : ℕ
  pub shape : slice_get t.shapes number ≡ Some (named_shape home name)
  pub last : c ≡ number + 1
  pub declared : AllOf (λ k. k < 14 + number) d
  pub others : (i b : ℕ) → slice_get counts i ≡ Some b → i < j → b < c

abbrev pub IsCountedItem : Tables → NumberedScope → List ℕ → ℕ → ℕ → Text → NumberedShown → Type 0
IsCountedItem t w counts j c name (instance k v) = Unit {0}
IsCountedItem t w counts j c name (function n) = PartsOf (λ k. k < 14 + c) (function_at t n)
IsCountedItem t w counts j c name (declares d) = IsTypeBefore w.imports j name ⊎ IsLastType t w.home counts j c name d

-- How many types there were once this import was followed: no fewer than before it, and what it is over is among them.
pub record IsCounted (t : Tables) (w : NumberedScope) (counts : List ℕ) (j c : ℕ) (s : NumberedSeen) : Type 0 where
  pub below : c ≤ length t.shapes
  pub rising : (i b : ℕ) → slice_get counts i ≡ Some b → i < j → b ≤ c
  pub item : IsCountedItem t w counts j c s.key s.shown

-- ---- scopes

-- an import or an export is the instance, under a key of its place
pub data IsSeenAs (w : NumberedScope) (i : NumberedInstance) : Type 0 where
  as_import : (n : ℕ) (s : NumberedSeen) (k : NumberedKey) → slice_get w.imports n ≡ Some s → s.shown ≡ instance k i.view → place_of_key k ≡ i.place
      → IsSeenAs w i
  as_export : (n : ℕ) (s : NumberedSeen) (k : NumberedKey) → slice_get w.exports n ≡ Some s → s.shown ≡ instance k i.view → place_of_key k ≡ i.place
      → IsSeenAs w i

-- All that the scope shows is over its own place and places with a path, its imports and exports that are instances are those of the scope, and its
-- imports came into the table in their order.
pub record IsPlacedScope (t : Tables) (w : NumberedScope) : Type 0 where
  pub home : path_at t w.home ≡ None
  pub imports : AllByRecursion (λ (s : NumberedSeen). IsPlacedItem t w.home s.shown) w.imports
  pub exports : AllByRecursion (λ (s : NumberedSeen). IsPlacedItem t w.home s.shown) w.exports
  pub imported : AllByRecursion (λ (s : NumberedSeen). IsOneOf t w.instances s.shown) w.imports
  pub exported : AllByRecursion (λ (s : NumberedSeen). IsOneOf t w.instances s.shown) w.exports
  pub instances : (j : ℕ) (i : NumberedInstance) → slice_get w.instances j ≡ Some i → IsPlacedView t i.place i.view
  pub seen : (j : ℕ) (i : NumberedInstance) → slice_get w.instances j ≡ Some i → IsSeenAs w i
  pub counts : List ℕ
  pub many : length counts ≡ length w.imports
  pub counted : (j c : ℕ) (s : NumberedSeen) → slice_get w.imports j ≡ Some s → slice_get counts j ≡ Some c → IsCounted t w counts j c s

-- Where the keys of imports differ, each type that is imported is the last of the table once it is followed.
abbrev pub ImportsComeLast : Type 0
ImportsComeLast = (t : Tables) (w : NumberedScope) (h : IsPlacedScope t w) → distinct (map (λ (s : NumberedSeen). s.key) w.imports) ≡ true
    → (j c : ℕ) (s : NumberedSeen) (d : Option ℕ) → slice_get w.imports j ≡ Some s → slice_get h.counts j ≡ Some c → s.shown ≡ declares d
    → IsLastType t w.home h.counts j c s.key d

-- The name of this number and this place is shown: by an instance of the place, or as an import of the scope itself.
pub data ShowsName (w : NumberedScope) (q n : ℕ) (name : Text) : Type 0 where
  by_instance : (j k : ℕ) (i : NumberedInstance) (x : NumberedType) → slice_get w.instances j ≡ Some i → i.place ≡ q → slice_get i.view.types k ≡ Some x
      → x.name ≡ name → part_of x.slot ≡ 14 + n → ShowsName w q n name
  by_import : (j : ℕ) (s : NumberedSeen) (d : Option ℕ) → slice_get w.imports j ≡ Some s → s.shown ≡ declares d → s.key ≡ name → q ≡ w.home
      → ShowsName w q n name

-- one of the scopes shows it
pub record IsShownInSome (ws : List NumberedScope) (q n : ℕ) (name : Text) : Type 0 where
  pub number : ℕ
  pub scope : NumberedScope
  pub at : slice_get ws number ≡ Some scope
  pub shows : ShowsName scope q n name

-- the instance of this number in the scope of this number
pub record IsInstanceAt (ws : List NumberedScope) (m j : ℕ) (i : NumberedInstance) : Type 0 where
  pub scope : NumberedScope
  pub at : slice_get ws m ≡ Some scope
  pub instance_at : slice_get scope.instances j ≡ Some i

-- an instance of one of the scopes is of the place
pub record IsMetInSome (ws : List NumberedScope) (q : ℕ) : Type 0 where
  pub scope : ℕ
  pub number : ℕ
  pub one : NumberedInstance
  pub at : IsInstanceAt ws scope number one
  pub place : one.place ≡ q

-- an instance of an earlier scope, or an earlier one of this scope, is of the place
pub data IsMetBefore (ws : List NumberedScope) (m j q : ℕ) : Type 0 where
  in_earlier : (k l : ℕ) (i : NumberedInstance) → k < m → IsInstanceAt ws k l i → i.place ≡ q → IsMetBefore ws m j q
  in_same : (l : ℕ) (i : NumberedInstance) → l < j → IsInstanceAt ws m l i → i.place ≡ q → IsMetBefore ws m j q

-- no instance before this one is of the place
pub record IsFirstSeen (ws : List NumberedScope) (m j p : ℕ) : Type 0 where
  pub scopes : (k l : ℕ) (i : NumberedInstance) → k < m → IsInstanceAt ws k l i → i.place ≡ p → ⊥
  pub instances : (l : ℕ) (i : NumberedInstance) → l < j → IsInstanceAt ws m l i → i.place ≡ p → ⊥

-- each type of the first view came into the table in front of each of the other
abbrev pub AreTypesBefore : NumberedView → NumberedView → Type 0
AreTypesBefore v u = (i j : ℕ) (x y : NumberedType) → slice_get v.types i ≡ Some x → slice_get u.types j ≡ Some y → part_of x.slot < part_of y.slot

-- ---- all scopes of an input

-- Each scope is placed, each name of the table is shown, each place with a path is met, behind those with a path and a smaller number, and each form is one
-- that a definition may have. The names of the first view of a place came into the table behind those of earlier views, and in its order if they differ.
-- Each scope and each inline interface has a place of its own.
pub record ArePlacedScopes (t : Tables) (ws : List NumberedScope) : Type 0 where
  pub each : (m : ℕ) (w : NumberedScope) → slice_get ws m ≡ Some w → IsPlacedScope t w
  pub names : (n q : ℕ) (name : Text) → slice_get t.shapes n ≡ Some (named_shape q name) → IsShownInSome ws q n name
  pub met : (q : ℕ) → HasPath t q → IsMetInSome ws q
  pub order : (m j : ℕ) (i : NumberedInstance) → IsInstanceAt ws m j i → (q : ℕ) → HasPath t q → q < i.place → IsMetBefore ws m j q
  pub formed : (n : ℕ) (form : Form) (parts : List ℕ) → slice_get t.shapes n ≡ Some (node_shape form parts) → is_form form parts ≡ true
  pub firsts : (m j : ℕ) (i : NumberedInstance) → IsInstanceAt ws m j i → IsFirstSeen ws m j i.place
      → distinct (map (λ (x : NumberedType). x.name) i.view.types) ≡ true → IsRisingView t i.place i.view
  pub later : (m j : ℕ) (i : NumberedInstance) → IsInstanceAt ws m j i → IsFirstSeen ws m j i.place → (n k : ℕ) (o : NumberedInstance) → IsInstanceAt ws n k o
      → (n < m) ⊎ ((n ≡ m) × (k < j)) → AreTypesBefore o.view i.view
  pub homes : (m n : ℕ) (w v : NumberedScope) → slice_get ws m ≡ Some w → slice_get ws n ≡ Some v → w.home ≡ v.home → m ≡ n
  pub inline : (m n j k : ℕ) (i l : NumberedInstance) → IsInstanceAt ws m j i → IsInstanceAt ws n k l → path_at t i.place ≡ None → i.place ≡ l.place
      → (m ≡ n) × (j ≡ k)
  pub not_home : (m n j : ℕ) (i : NumberedInstance) (w : NumberedScope) → IsInstanceAt ws m j i → slice_get ws n ≡ Some w → path_at t i.place ≡ None
      → i.place ≡ w.home → ⊥

-- what the members show, in order
abbrev pub scopes_in : Followed → List NumberedScope
scopes_in x = map (λ (m : Member). numbered_scope x.places (scope_of m.part)) x.members.items

-- What is followed of an input is so.
abbrev pub PlacesAreKept : Type 0
PlacesAreKept = (pieces : List Piece) (x : Followed) → IsFollowed pieces x → ArePlacedScopes (tables_of x) (scopes_in x)
