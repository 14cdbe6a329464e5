-- The rules of reading on what uses what, and on worlds, in numbers (WIT.md, "Worlds"; Binary.md, "Import and Export Definitions").
use Rattle.std.specs.Prelude.{◌≡◌, ℕ, Bool, true, false, not, ◌&&◌, ◌==◌, if◌then◌else◌, List, [], ◌∷◌, ◌++◌, map, Option, Some, None}
use Rattle.std.specs.{List.AllByRecursion, List.flat_map, List.list_all, Option.option_map_or}
use Rattle.wit_model.specs.{Text.Text, Names.is_label, Uses.has}
use Rattle.comp_meaning.specs.{Follow.Key, Follow.Seen, Follow.Shown, Follow.Instance, Follow.Scope, Rules.distinct}
use Rattle.plan_meaning.specs.NumberedViews.{Tables, path_at, path_text, signature_at, function_at, IsPart, AllOf, PartsOf, AreTables, NumberedType, NumberedView, view_of, declaration_of, NumberedSight, sight_of, ViewPasses}
use Rattle.plan_meaning.specs.NumberedRules.{Fact, name_at, is_declared, is_function, is_interface, is_no_part, IsKnown}
use Rattle.comp_meaning.specs.Rules as rules
use Rattle.comp_meaning.specs.Reads as reads

-- ---- imports and exports

-- The key of an instance: the interface of the place itself, a label with the place of its inline interface, or a label with the place of
-- the interface that it implements.
pub data NumberedKey : Type 0 where
  path : ℕ → NumberedKey
  label : Text → ℕ → NumberedKey
  implementing : Text → ℕ → NumberedKey

abbrev pub place_of_key : NumberedKey → ℕ
place_of_key (path p) = p
place_of_key (label l p) = p
place_of_key (implementing l p) = p

abbrev pub key_of : Tables → NumberedKey → Key
key_of t (path p) = Key.path (path_text t p)
key_of t (label l p) = Key.label l
key_of t (implementing l p) = Key.implementing l (path_text t p)

-- what an import or an export is: an instance, a function by the number of its type, or a type with the part that it is another name for
pub data NumberedShown : Type 0 where
  instance : NumberedKey → NumberedView → NumberedShown
  function : ℕ → NumberedShown
  declares : Option ℕ → NumberedShown

pub record NumberedSeen : Type 0 where
  pub key : Text
  pub shown : NumberedShown
  pub external_id : Option Text

abbrev pub shown_of : Tables → NumberedShown → Shown
shown_of t (instance key v) = Shown.instance (key_of t key) (view_of t v)
shown_of t (function n) = Shown.function (signature_at t n)
shown_of t (declares d) = Shown.declares (declaration_of t d)

abbrev pub seen_of : Tables → NumberedSeen → Seen
seen_of t s = record { key = s.key; shown = shown_of t s.shown; external_id = s.external_id }

-- an instance, with the number of the place of its names
pub record NumberedInstance : Type 0 where
  pub place : ℕ
  pub view : NumberedView

abbrev pub instance_of : Tables → NumberedInstance → Instance
instance_of t i = record { interface = path_at t i.place; view = view_of t i.view }

-- what a component type shows, and the number of the place of its own names
pub record NumberedScope : Type 0 where
  pub home : ℕ
  pub imports : List NumberedSeen
  pub exports : List NumberedSeen
  pub instances : List NumberedInstance

-- The scope shows what the numbers stand for.
pub record Shows (t : Tables) (w : NumberedScope) (scope : Scope) : Type 0 where
  pub imports : scope.imports ≡ map (seen_of t) w.imports
  pub exports : scope.exports ≡ map (seen_of t) w.exports
  pub instances : scope.instances ≡ map (instance_of t) w.instances

-- the views of interfaces with a path that the instances give
abbrev pub sights_of_instance : Tables → NumberedInstance → List NumberedSight
sights_of_instance t i = option_map_or (λ path. record { place = i.place; view = i.view; whole = true } ∷ []) (path_at t i.place) []

abbrev pub sights_of_scope : Tables → NumberedScope → List NumberedSight
sights_of_scope t w = flat_map (sights_of_instance t) w.instances

-- ---- what uses what

-- the place, if it is of an interface with a path
abbrev pub if_outside : Tables → ℕ → List ℕ
if_outside t p = option_map_or (λ path. p ∷ []) (path_at t p) []

-- the other interface of whose name a declaration is another name
abbrev pub used_by : Tables → Option ℕ → List ℕ
used_by t None = []
used_by t (Some k) = option_map_or (λ x. if_outside t x.0) (name_at t k) []

abbrev pub used_by_view : Tables → NumberedView → List ℕ
used_by_view t v = flat_map (λ x. used_by t x.declared) v.types

abbrev pub others_than : ℕ → List ℕ → List ℕ
others_than own [] = []
others_than own (p ∷ ps) = if p == own then others_than own ps else p ∷ others_than own ps

abbrev pub uses_of : Tables → NumberedShown → List ℕ
uses_of t (instance key v) = others_than (place_of_key key) (used_by_view t v)
uses_of t (function n) = []
uses_of t (declares d) = used_by t d

abbrev pub path_seen : NumberedShown → List ℕ
path_seen (instance (path p) v) = p ∷ []
path_seen (instance (implementing l p) v) = p ∷ []
path_seen _ = []

-- each interface that is used stands earlier
abbrev pub stand_earlier : Tables → List ℕ → List NumberedSeen → Bool
stand_earlier t earlier [] = true
stand_earlier t earlier (s ∷ rest) = list_all (has earlier) (uses_of t s.shown) && stand_earlier t (earlier ++ path_seen s.shown) rest

-- each import of an interface's component type is used by a later one, or by the export
abbrev pub are_reached : Tables → List (ℕ × NumberedView) → NumberedView → Bool
are_reached t [] exported = true
are_reached t (i ∷ later) exported = has (flat_map (λ l. used_by_view t l.1) later ++ used_by_view t exported) i.0 && are_reached t later exported

-- no number stands twice
abbrev pub are_once : List ℕ → Bool
are_once [] = true
are_once (n ∷ ns) = not (has ns n) && are_once ns

-- ---- worlds

abbrev pub is_resource_seen : NumberedShown → Bool
is_resource_seen (declares d) = is_no_part d
is_resource_seen _ = false

abbrev pub resources_seen : List NumberedSeen → List Text
resources_seen [] = []
resources_seen (s ∷ rest) = if is_resource_seen s.shown then s.key ∷ resources_seen rest else resources_seen rest

module _ (t : Tables) (known : ℕ → Fact) (home : ℕ) where
  -- an import or an export of a world, behind these resources
  abbrev pub is_item : List Text → Text → NumberedShown → Bool
  is_item resources key (instance k v) = is_interface t known (place_of_key k) v
  is_item resources key (function n) = is_function t known home resources key (function_at t n)
  is_item resources key (declares d) = is_label key && is_declared t known home d

  abbrev pub are_imports : List NumberedSeen → List NumberedSeen → Bool
  are_imports earlier [] = true
  are_imports earlier (s ∷ rest) = is_item (resources_seen earlier) s.key s.shown && are_imports (earlier ++ s ∷ []) rest

-- what a world may have
abbrev pub is_world : Tables → (ℕ → Fact) → NumberedScope → Bool
is_world t known w =
    are_imports t known w.home [] w.imports
    && list_all (λ s. is_item t known w.home [] s.key s.shown) w.exports
    && distinct (map (λ s. s.key) w.imports)
    && distinct (map (λ s. s.key) w.exports)
    && stand_earlier t [] (w.imports ++ w.exports)

-- ---- what holds of a scope that was followed

abbrev pub HasPath : Tables → ℕ → Type 0
HasPath t p = (path : Text) × (path_at t p ≡ Some path)

-- a place under a path has one, and the place of an inline interface has none
abbrev pub KeyStands : Tables → NumberedKey → Type 0
KeyStands t (path p) = HasPath t p
KeyStands t (label l p) = path_at t p ≡ None
KeyStands t (implementing l p) = HasPath t p

module _ (t : Tables) (known : ℕ → Fact) (home : ℕ) where
  -- what is known of each part is true, as it is seen from the place of its instance, or from the world
  abbrev pub ItemStands : NumberedShown → Type 0
  ItemStands (instance k v) = KeyStands t k × ViewPasses t (IsKnown t known (place_of_key k)) v
  ItemStands (function n) = PartsOf (IsKnown t known home) (function_at t n)
  ItemStands (declares d) = AllOf (IsKnown t known home) d

pub record ScopeStands (t : Tables) (known : ℕ → Fact) (w : NumberedScope) : Type 0 where
  pub home : path_at t w.home ≡ None
  pub imports : AllByRecursion (λ (s : NumberedSeen). ItemStands t known w.home s.shown) w.imports
  pub exports : AllByRecursion (λ (s : NumberedSeen). ItemStands t known w.home s.shown) w.exports

-- ---- laws

-- each view is over parts of the table
abbrev pub DeclaresParts : Tables → NumberedView → Type 0
DeclaresParts t v = AllByRecursion (λ (x : NumberedType). AllOf (IsPart t) x.declared) v.types

-- A view uses the interfaces that its numbers use.
abbrev pub UsesInNumbers : Type 0
UsesInNumbers = (t : Tables) → AreTables t → (v : NumberedView) → DeclaresParts t v → rules.used_by_view (view_of t v) ≡ map (path_text t) (used_by_view t v)

-- Imports are reached exactly where their numbers are.
abbrev pub ReachedInNumbers : Type 0
ReachedInNumbers = (t : Tables) → AreTables t → (imports : List (ℕ × NumberedView)) (exported : NumberedView)
    → AllByRecursion (λ (i : ℕ × NumberedView). HasPath t i.0 × DeclaresParts t i.1) imports → DeclaresParts t exported
    → reads.are_reached (map (λ i. (path_text t i.0, view_of t i.1)) imports) (view_of t exported) ≡ are_reached t imports exported

-- No path stands twice exactly where no number does.
abbrev pub PathsInNumbers : Type 0
PathsInNumbers = (t : Tables) → AreTables t → (ps : List ℕ) → AllByRecursion (HasPath t) ps → distinct (map (path_text t) ps) ≡ are_once ps

-- What a scope shows obeys the rules on worlds exactly where its numbers do.
abbrev pub WorldsInNumbers : Type 0
WorldsInNumbers = (t : Tables) → AreTables t → (known : ℕ → Fact) (w : NumberedScope) (scope : Scope) → ScopeStands t known w → Shows t w scope
    → rules.is_world scope ≡ is_world t known w

-- Its instances give the views that their numbers give.
abbrev pub SightsInNumbers : Type 0
SightsInNumbers = (t : Tables) (w : NumberedScope) (scope : Scope) → Shows t w scope
    → flat_map reads.of_instance scope.instances ≡ map (sight_of t) (sights_of_scope t w)
