-- Scopes of component types as they are kept, what they stand for, and what each entry does to them.
use Rattle.std.specs.Prelude.{◌≡◌, ◌⊎◌, ◌<◌, ◌≤◌, ◌+◌, ◌-◌, ◌==◌, ◌&&◌, ℕ, suc, Bool, true, false, not, if◌then◌else◌, List, [], ◌∷◌, ◌++◌, length, map, take, option_map, slice_get, unwrap_or, IfErr, IfSome, OnOk, Option, Some, None, Result}
use Rattle.std.specs.{Borrow.Bor, List.AllByRecursion, List.list_any}
use Rattle.wit_model.specs.{Meaning.Signature, Text.Text, Text.text_eq, Tree.Form, Tree.Place, Tree.Tree}
use Rattle.comp_bytes.specs.{Levels.Entry as RawEntry, Levels.plain, Levels.holds, Levels.entry_at, RawOf.text_of, Reading.◌>>=◌, Reading.sequence_at}
use Rattle.comp_bytes.specs.Raw.{Alias}
use Rattle.comp_meaning.specs.{ByLevels.entry_scope, ByLevels.entry_step, Reads.steps}
use Rattle.comp_meaning.specs.Follow.{Scope as MeantScope, Seen as MeantSeen, Shown as MeantShown, Instance as MeantInstance, View as MeantView, Direction, text_of_key, provided, used_view, when, new_scope}
use Rattle.read_follow.specs.declared.{bodies.Body.Body, scopes.Scope.Scope, scopes.Seen.Seen, scopes.Shown.Shown, slots.Slot.Slot, views.View.View}
use Rattle.read_follow.specs.declared.{instance_keys.InstanceKey.InstanceKey, refusal.Refusal.Refusal, scopes.Instance.Instance, views.ShownType.ShownType}
use Rattle.read_follow.specs.{Bodies.items_in, Numbering.bare_parts, Numbering.scoped_trees, Numbering.trees_along, Numbering.trees_since, Numbering.CountUp}
use Rattle.read_follow.specs.{Defining.Grows, InstanceScopes.IsViewOf, Found.Refuses, Functions.functions_in, Functions.FunctionShape, Functions.IsFunctionIn}
use Rattle.read_follow.specs.Following.{declared_in, shown_function, shown_type, slots_at, AreMarked, AreSlotsIn, AreTables, IsShownFunctionIn, IsShownIn, State}
use Rattle.read_follow.specs.Placed.{apart, ComeBefore, DeclarationOver, HasNoNames, IsNameAs, IsShownAmong, IsTypeNamed, MayMeet, Rise, SignatureOver, SlotOver, TreeOver, ViewOver}
use Rattle.read_follow.specs.{Places.has_path, Places.key_at, Places.place_number, Places.ArePlacesOf, Places.IsKeyIn, Slots.no_signature, Slots.slots_in}
use Rattle.plan_meaning.specs.{PlanRules.is_form, Shapes.Shape, Shapes.named_shape, Shapes.node_shape, Shapes.part_tree, Shapes.shape_trees}
use Rattle.read_follow.specs.declared.scopes.Shown.TheVariants as shown
use Rattle.read_follow.specs.declared.slots.Slot.TheVariants as slots

-- ---- what was kept, as what it stands for

-- the path of a place, if it has one
abbrev pub path_of : Place → Option Text
path_of (Place.of_interface path) = Some path
path_of Place.here = None

abbrev pub view_in : List Tree → List Signature → View → MeantView
view_in T F v = record { types = map (shown_type T F) v.types.items; functions = map (shown_function F) v.functions.items }

abbrev pub instance_in : (ℕ → Place) → List Tree → List Signature → Instance → MeantInstance
instance_in place T F i = record { interface = path_of (place i.place); view = view_in T F i.view }

abbrev pub viewed : List Tree → List Signature → Option Instance → MeantView
viewed T F None = record { types = []; functions = [] }
viewed T F (Some i) = view_in T F i.view

abbrev pub shown_text : (ℕ → Place) → Shown → Text
shown_text place (shown.Instance key n) = text_of_key (key_at place key)
shown_text place (shown.Function name f) = name.now
shown_text place (shown.Type name part d) = name.now

abbrev pub shown_in : (ℕ → Place) → List Tree → List Signature → List Instance → Shown → MeantShown
shown_in place T F is (shown.Instance key n) = MeantShown.instance (key_at place key) (viewed T F (slice_get is n))
shown_in place T F is (shown.Function name f) = MeantShown.function (unwrap_or (slice_get F f) no_signature)
shown_in place T F is (shown.Type name part d) = MeantShown.declares (declared_in T d)

abbrev pub seen_in : (ℕ → Place) → List Tree → List Signature → List Instance → Seen → MeantSeen
seen_in place T F is s = record { key = shown_text place s.shown; shown = shown_in place T F is s.shown; external_id = option_map text_of s.external_id }

-- The tables and the places of a whole input, and a scope over them.
pub record World : Type 0 where
  pub home : ℕ
  pub shapes : List Shape
  pub signatures : List FunctionShape
  pub paths : List (Option Text)
  pub slots : List Slot
  pub instances : List Instance
  pub imports : List Seen
  pub exports : List Seen
  pub used : List ℕ

abbrev pub world_of : List Shape → List FunctionShape → List (Option Text) → Scope → World
world_of shapes fs paths s = record {
  home = s.home;
  shapes = shapes;
  signatures = fs;
  paths = paths;
  slots = s.slots.items;
  instances = s.instances.items;
  imports = s.imports.items;
  exports = s.exports.items;
  used = s.used.keys;
}

abbrev pub world_trees : (ℕ → Place) → World → List Tree
world_trees place w = shape_trees place w.shapes

abbrev pub world_signatures : (ℕ → Place) → World → List Signature
world_signatures place w = functions_in (shape_trees place w.shapes) w.signatures

-- what the scope stands for
abbrev pub meant_at : (ℕ → Place) → World → MeantScope
meant_at place w = record {
  slots = slots_in (world_trees place w) (world_signatures place w) w.slots;
  instances = map (instance_in place (world_trees place w) (world_signatures place w)) w.instances;
  imports = map (seen_in place (world_trees place w) (world_signatures place w) w.instances) w.imports;
  exports = map (seen_in place (world_trees place w) (world_signatures place w) w.instances) w.exports;
  used = w.used;
}

-- ---- what is well-formed

pub record IsInstanceIn (shapes : List Shape) (fs : List FunctionShape) (paths : List (Option Text)) (i : Instance) : Type 0 where
  pub place : i.place < length paths
  pub types : AllByRecursion (IsShownIn shapes fs) i.view.types.items
  pub functions : AllByRecursion (IsShownFunctionIn fs) i.view.functions.items

abbrev pub IsShownAs : List Shape → List FunctionShape → List (Option Text) → ℕ → Shown → Type 0
IsShownAs shapes fs paths n (shown.Instance key m) = IsKeyIn paths key × (m < n)
IsShownAs shapes fs paths n (shown.Function name f) = f < length fs
IsShownAs shapes fs paths n (shown.Type name part d) = (part < 14 + length shapes) × IfSome d (λ k. k < 14 + length shapes)

abbrev pub AreSeenIn : List Shape → List FunctionShape → List (Option Text) → ℕ → List Seen → Type 0
AreSeenIn shapes fs paths n ss = AllByRecursion (λ (s : Seen). IsShownAs shapes fs paths n s.shown) ss

-- the tables are well-formed, and the scope is one over them, whose own names have a place without a path
pub record IsWorld (w : World) : Type 0 where
  pub tables : AreTables (length w.paths) w.shapes w.signatures
  pub own : slice_get w.paths w.home ≡ Some None
  pub slots : AreSlotsIn w.shapes w.signatures w.slots
  pub instances : AllByRecursion (IsInstanceIn w.shapes w.signatures w.paths) w.instances
  pub imports : AreSeenIn w.shapes w.signatures w.paths (length w.instances) w.imports
  pub exports : AreSeenIn w.shapes w.signatures w.paths (length w.instances) w.exports

-- ---- names in their places

abbrev pub ShownOver : (Place → Type 0) → MeantShown → Type 0
ShownOver P (MeantShown.instance key view) = Unit {0}
ShownOver P (MeantShown.function f) = SignatureOver P f
ShownOver P (MeantShown.declares d) = DeclarationOver P d

-- a type that is imported stands for its name
abbrev pub IsImportNamed : List Shape → ℕ → Shown → Type 0
IsImportNamed shapes home (shown.Instance key n) = Unit {0}
IsImportNamed shapes home (shown.Function name f) = Unit {0}
IsImportNamed shapes home (shown.Type name part d) = IsNameAs shapes home name.now part

-- an instance has the place of its key
abbrev pub IsKeyPlaced : List Instance → Shown → Type 0
IsKeyPlaced is (shown.Instance key n) = (x : Instance) × (slice_get is n ≡ Some x) × (x.place ≡ place_number key)
IsKeyPlaced is (shown.Function name f) = Unit {0}
IsKeyPlaced is (shown.Type name part d) = Unit {0}

-- an import or an export is the instance of this number
pub data IsInstanceSeen (w : World) (j : ℕ) : Type 0 where
  as_import : (n : ℕ) (s : Seen) (key : InstanceKey) → slice_get w.imports n ≡ Some s → s.shown ≡ shown.Instance key j → IsInstanceSeen w j
  as_export : (n : ℕ) (s : Seen) (key : InstanceKey) → slice_get w.exports n ≡ Some s → s.shown ≡ shown.Instance key j → IsInstanceSeen w j

-- one of the instances is of the place
pub record IsPlaceMet (is : List Instance) (q : ℕ) : Type 0 where
  pub number : ℕ
  pub one : Instance
  pub at : slice_get is number ≡ Some one
  pub place : one.place ≡ q

-- each place with a path, behind so many that were there before, is met
abbrev pub ArePathsMet : ℕ → List (Option Text) → List Instance → Type 0
ArePathsMet before paths is = (q : ℕ) (path : Text) → slice_get paths q ≡ Some (Some path) → (q < before) ⊎ IsPlaceMet is q

-- an earlier instance than this is of the place
pub record IsPlaceMetBefore (is : List Instance) (j q : ℕ) : Type 0 where
  pub number : ℕ
  pub earlier : number < j
  pub one : Instance
  pub at : slice_get is number ≡ Some one
  pub place : one.place ≡ q

-- Behind so many places that were there before, each instance stands behind one of each place that has a path and a smaller number than its own.
abbrev pub ArePathsInOrder : ℕ → List (Option Text) → List Instance → Type 0
ArePathsInOrder before paths is =
    (j : ℕ) (x : Instance) → slice_get is j ≡ Some x → (q : ℕ) (path : Text) → slice_get paths q ≡ Some (Some path) → q < x.place → (q < before)
    ⊎ IsPlaceMetBefore is j q

-- The name of this place, which is this part, is shown: by an instance of the place, or as an import of the scope itself.
pub data IsShownBy (w : World) (q : ℕ) (name : Text) (part : ℕ) : Type 0 where
  by_instance : (j : ℕ) (x : Instance) → slice_get w.instances j ≡ Some x → x.place ≡ q → IsShownAmong x.view.types.items name part → IsShownBy w q name part
  by_import : (j : ℕ) (s : Seen) (label : Bor (List ℕ)) (d : Option ℕ) → slice_get w.imports j ≡ Some s → s.shown ≡ shown.Type label part d → label.now ≡ name
      → q ≡ w.home → IsShownBy w q name part

-- no instance before it is of its place
abbrev pub IsFirstOf : List Instance → ℕ → Instance → Type 0
IsFirstOf is j x = (i : ℕ) (y : Instance) → slice_get is i ≡ Some y → i < j → y.place ≡ x.place → ⊥

-- the place of an inline interface is its own, and there were so many places before the scope
pub record IsInlinePlace (count : ℕ) (w : World) (j : ℕ) (x : Instance) : Type 0 where
  pub none : slice_get w.paths x.place ≡ Some None
  pub new : count ≤ x.place
  pub not_home : x.place ≡ w.home → ⊥
  pub first : IsFirstOf w.instances j x

-- An instance of the scope: what it shows is over its own place and those with a path, and stands for its name. If its place had no names before
-- the scope, and it is the first of it, then its names came behind what they are over, and behind those of earlier instances.
pub record IsPlacedInstance (base : List Shape) (count : ℕ) (w : World) (j : ℕ) (x : Instance) : Type 0 where
  pub shown : ViewOver (MayMeet (map has_path w.paths) x.place) (view_in (world_trees apart w) (world_signatures apart w) x.view)
  pub named : AllByRecursion (IsTypeNamed w.shapes x.place) x.view.types.items
  pub own : ((path : Text) × (slice_get w.paths x.place ≡ Some (Some path))) ⊎ IsInlinePlace count w j x
  pub rise : HasNoNames x.place base → IsFirstOf w.instances j x → Rise x.view.types.items
  pub later : HasNoNames x.place base → IsFirstOf w.instances j x → (i : ℕ) (y : Instance) → slice_get w.instances i ≡ Some y → i < j
      → ComeBefore y.view.types.items x.view.types.items

-- an earlier import of a type has the name
pub record IsImportRepeated (imports : List Seen) (j : ℕ) (name : Text) : Type 0 where
  pub number : ℕ
  pub earlier : number < j
  pub seen : Seen
  pub at : slice_get imports number ≡ Some seen
  pub label : Bor (List ℕ)
  pub part : ℕ
  pub declared : Option ℕ
  pub is : seen.shown ≡ shown.Type label part declared
  pub same : label.now ≡ name

-- the name is the last of so many types, behind what it is declared as and behind all that was there before
pub record IsLastName (counts : List ℕ) (j c part : ℕ) (d : Option ℕ) : Type 0 where
  pub last : part + 1 ≡ 14 + c
  pub declared : IfSome d (λ k. k < part)
  pub others : (i b : ℕ) → slice_get counts i ≡ Some b → i < j → b < c

abbrev pub IsCountedAs : World → List ℕ → ℕ → ℕ → Shown → Type 0
IsCountedAs w counts j c (shown.Instance key n) = Unit {0}
IsCountedAs w counts j c (shown.Function name f) = (g : FunctionShape) → slice_get w.signatures f ≡ Some g → IsFunctionIn c g
IsCountedAs w counts j c (shown.Type name part d) = IsImportRepeated w.imports j name.now ⊎ IsLastName counts j c part d

-- How many types there were once this import was followed: no fewer than before it, and what it is over is among them.
pub record IsCounted (w : World) (counts : List ℕ) (j : ℕ) (s : Seen) (c : ℕ) : Type 0 where
  pub below : c ≤ length w.shapes
  pub rising : (i b : ℕ) → slice_get counts i ≡ Some b → i < j → b ≤ c
  pub kind : IsCountedAs w counts j c s.shown

-- Slots and what is shown are over names of the scope's own place and of those with a path. What is imported stands for its name. An
-- instance has the place of its key, under which it is imported or exported. Each name that came into the table behind these shapes, among
-- the first so many, is shown, each form is one that a definition may have, and imports came into it in their order. There were so many
-- places before the scope, and no name of its own.
pub record IsPlacedAmong (base : List Shape) (count till : ℕ) (w : World) : Type 0 where
  pub grows : Grows base w.shapes
  pub within : till ≤ length w.shapes
  pub home : count ≤ w.home
  pub fresh : HasNoNames w.home base
  pub slots : AllByRecursion (SlotOver (MayMeet (map has_path w.paths) w.home)) (meant_at apart w).slots
  pub imports : AllByRecursion (λ (s : MeantSeen). ShownOver (MayMeet (map has_path w.paths) w.home) s.shown) (meant_at apart w).imports
  pub exports : AllByRecursion (λ (s : MeantSeen). ShownOver (MayMeet (map has_path w.paths) w.home) s.shown) (meant_at apart w).exports
  pub named : AllByRecursion (λ (s : Seen). IsImportNamed w.shapes w.home s.shown) w.imports
  pub imports_keyed : AllByRecursion (λ (s : Seen). IsKeyPlaced w.instances s.shown) w.imports
  pub exports_keyed : AllByRecursion (λ (s : Seen). IsKeyPlaced w.instances s.shown) w.exports
  pub instances : (j : ℕ) (x : Instance) → slice_get w.instances j ≡ Some x → IsPlacedInstance base count w j x
  pub seen : (j : ℕ) (x : Instance) → slice_get w.instances j ≡ Some x → IsInstanceSeen w j
  pub names : (n q : ℕ) (name : Text) → n < till → slice_get w.shapes n ≡ Some (named_shape q name) → (n < length base) ⊎ IsShownBy w q name (14 + n)
  pub formed : (n : ℕ) (form : Form) (parts : List ℕ) → n < till → slice_get w.shapes n ≡ Some (node_shape form parts) → (n < length base)
      ⊎ (is_form form parts ≡ true)
  pub counts : List ℕ
  pub many : length counts ≡ length w.imports
  pub counted : (j : ℕ) (s : Seen) (c : ℕ) → slice_get w.imports j ≡ Some s → slice_get counts j ≡ Some c → IsCounted w counts j s c

-- all names that came into the table are
abbrev pub IsPlacedWorld : List Shape → ℕ → World → Type 0
IsPlacedWorld base count w = IsPlacedAmong base count (length w.shapes) w

-- ---- counts

-- how many declarations the instance types have that aren't used yet, where the first slot has the number n
abbrev pub waiting : List ℕ → ℕ → List Slot → ℕ
waiting used n [] = 0
waiting used n (slots.Instance b around ∷ ss) = (if list_any (λ m. m == n) used then 0 else b.count) + waiting used (suc n) ss
waiting used n (_ ∷ ss) = waiting used (suc n) ss

-- how many types an entry makes at most, at once or where it is used
abbrev pub weight : RawEntry → ℕ
weight (plain d) = 1
weight (holds ds) = length ds

abbrev pub weights : List RawEntry → ℕ
weights [] = 0
weights (e ∷ es) = weight e + weights es

-- ---- the scopes of types

-- the part is over names of this place and of those with a path
abbrev pub IsPartOver : World → ℕ → ℕ → Type 0
IsPartOver w place part = TreeOver (MayMeet (map has_path w.paths) place) (part_tree (world_trees apart w) part)

-- A part that is declared in this scope is over names of its place and of those with a path: of the component type's own, or of that of the instance.
abbrev pub IsScopedIn : World → Option ℕ → ℕ → Type 0
IsScopedIn w None part = IsPartOver w w.home part
IsScopedIn w (Some j) part = (x : Instance) × (slice_get w.instances j ≡ Some x) × IsPartOver w x.place part

abbrev pub AreScopedIn : World → List (Option ℕ × ℕ) → Type 0
AreScopedIn w parts = AllByRecursion (λ (p : Option ℕ × ℕ). IsScopedIn w p.0 p.1) parts

-- ---- steps

-- The types that come into the table are those that are declared, in their order, each over the names of its scope.
pub record Numbers (old new : World) : Type 0 where
  pub parts : List (Option ℕ × ℕ)
  pub counted : CountUp (length old.shapes) (bare_parts parts) (length new.shapes)
  pub trees : (place : ℕ → Place) → ArePlacesOf new.paths place
      → trees_since (meant_at place old) (meant_at place new) ≡ scoped_trees (world_trees place new) parts
  pub scoped : (base : List Shape) (places : ℕ) → IsPlacedWorld base places new → AreScopedIn new parts

-- The tables grow, by this many types at most if all that waits is counted, and names stay in their places. New places with a path are met,
-- in their order. The scope becomes what the step of the definition makes of it.
pub record Goes (few : ℕ) (step : MeantScope → Option MeantScope) (old new : World) : Type 0 where
  pub world : IsWorld new
  pub shapes_grow : Grows old.shapes new.shapes
  pub signatures_grow : Grows old.signatures new.signatures
  pub paths_grow : Grows old.paths new.paths
  pub count : length new.shapes + waiting new.used 0 new.slots ≤ length old.shapes + waiting old.used 0 old.slots + few
  pub placed : (base : List Shape) (places : ℕ) → IsPlacedWorld base places old → IsPlacedWorld base places new
  pub met : (before : ℕ) → ArePathsMet before old.paths old.instances → ArePathsMet before new.paths new.instances
  pub order : (before : ℕ) → ArePathsMet before old.paths old.instances → ArePathsInOrder before old.paths old.instances
      → ArePathsInOrder before new.paths new.instances
  pub numbers : Numbers old new
  pub home : new.home ≡ old.home
  pub instances_grow : Grows old.instances new.instances
  pub imports_grow : Grows old.imports new.imports
  pub follows : (place : ℕ → Place) → ArePlacesOf new.paths place → step (meant_at place old) ≡ Some (meant_at place new)

-- the step of the definition makes nothing of it, unless memory ran out
abbrev pub Stops : (MeantScope → Option MeantScope) → World → List (Option Text) → Refusal → Type 0
Stops step old paths e = (place : ℕ → Place) → ArePlacesOf paths place → Refuses e (step (meant_at place old))

-- A world that is kept goes on by this step, whatever types of functions and places it is kept with. The table of types was the first list, and is the second.
abbrev pub GoesBy : {A : Type 0} → (MeantScope → Option MeantScope) → List Shape → List Shape → Scope → Scope → Result A Refusal → Type 0
GoesBy step before after old new result = (fs : List FunctionShape) (paths : List (Option Text)) → IsWorld (world_of before fs paths old)
    → OnOk result (Goes 1 step (world_of before fs paths old) (world_of after fs paths new))

-- a refusal of it: the step makes nothing of the world, unless memory ran out
abbrev pub StopsBy : {A : Type 0} → (MeantScope → Option MeantScope) → List Shape → Scope → Result A Refusal → Type 0
StopsBy step before old result = (fs : List FunctionShape) (paths : List (Option Text)) → IsWorld (world_of before fs paths old)
    → IfErr result (Stops step (world_of before fs paths old) paths)

-- If an entry stands in front of the bytes, then these others stand behind it, and the world goes on by it.
abbrev pub Enters : List ℕ → List ℕ → World → World → Type 0
Enters bytes rest old new = (x : RawEntry) (behind : List ℕ) → entry_at bytes ≡ Some (x, behind)
    → (rest ≡ behind) × Goes (weight x) (λ m. entry_step m x) old new

-- a refusal of it
abbrev pub StopsAt : List ℕ → World → List (Option Text) → Refusal → Type 0
StopsAt bytes old paths e = (x : RawEntry) (behind : List ℕ) → entry_at bytes ≡ Some (x, behind) → Stops (λ m. entry_step m x) old paths e

-- ---- aliases

-- the slot of the first type of this name
abbrev pub find_slot : Text → List ShownType → Option Slot
find_slot name [] = None
find_slot name (t ∷ ts) = if text_eq name t.name.now then Some t.slot else find_slot name ts

abbrev pub slot_of_instance : List (Option Text) → Text → Option Instance → Option Slot
slot_of_instance paths name None = None
slot_of_instance paths name (Some i) = find_slot name i.view.types.items >>= λ s. provided (has_path (unwrap_or (slice_get paths i.place) None)) s

-- ---- stages

-- How a scope stood behind these first entries, before the others were followed: over beginnings of the tables and of the places that there are now, with
-- beginnings of its instances and of its imports. Names stood in their places, and the scope stood for what those entries show.
pub record IsStage (base : List Shape) (count : ℕ) (es : List RawEntry) (now : World) (n : ℕ) (w : World) : Type 0 where
  pub world : IsWorld w
  pub home : now.home ≡ w.home
  pub shapes_grow : Grows w.shapes now.shapes
  pub paths_grow : Grows w.paths now.paths
  pub instances_grow : Grows w.instances now.instances
  pub imports_grow : Grows w.imports now.imports
  pub placed : IsPlacedWorld base count w
  pub front : List RawEntry
  pub back : List RawEntry
  pub split : es ≡ front ++ back
  pub long : length front ≡ n
  pub follows : (place : ℕ → Place) → ArePlacesOf w.paths place → steps entry_step new_scope front ≡ Some (meant_at place w)

-- how it stood behind the first entries, for each number up to this
abbrev pub HasStages : List Shape → ℕ → List RawEntry → ℕ → World → Type 0
HasStages base count es many now = (n : ℕ) → n ≤ many → (w : World) × IsStage base count es now n w

-- ---- all entries

-- So many entries of a body have been followed. Those that are left decide what it shows.
pub record IsFollowedTo (start : World) (b : Body) (i : ℕ) (rest : List ℕ) (now : World) : Type 0 where
  pub world : IsWorld now
  pub shapes_grow : Grows start.shapes now.shapes
  pub signatures_grow : Grows start.signatures now.signatures
  pub paths_grow : Grows start.paths now.paths
  pub placed : IsPlacedWorld start.shapes start.home now
  pub met : ArePathsMet (length start.paths) now.paths now.instances
  pub order : ArePathsInOrder (length start.paths) now.paths now.instances
  pub es : List RawEntry
  pub left : sequence_at entry_at (b.count - i) rest ≡ Some (es, [])
  pub count : length now.shapes + waiting now.used 0 now.slots + weights es ≤ length start.shapes + weights (items_in entry_at b)
  pub follows : (place : ℕ → Place) → ArePlacesOf now.paths place → steps entry_step (meant_at place now) es ≡ steps entry_step new_scope (items_in entry_at b)
  pub stage : IsStage start.shapes start.home (items_in entry_at b) now i now
  pub behind : items_in entry_at b ≡ stage.front ++ es
  pub parts : List (Option ℕ × ℕ)
  pub counted : CountUp (length start.shapes) (bare_parts parts) (length now.shapes)
  pub trees : (place : ℕ → Place) → ArePlacesOf now.paths place
      → scoped_trees (world_trees place now) parts ++ trees_along (meant_at place now) es ≡ trees_along new_scope (items_in entry_at b)
  pub scoped : AreScopedIn now parts
  pub stages : HasStages start.shapes start.home (items_in entry_at b) i now

-- ---- instances that are used

abbrev pub direction : Bool → Direction
direction true = Direction.import_
direction false = Direction.export_

-- The instance type of this index, that nothing has used, shows the view.
pub record IsUsedView (marks : List Bool) (here : ℕ) (start : State) (ss : List Slot) (used : List ℕ) (n : ℕ) (v : View) (now : State) : Type 0 where
  pub unused : list_any (λ m. m == n) used ≡ false
  pub body : Body
  pub around : ℕ
  pub slot : slice_get ss n ≡ Some (slots.Instance body around)
  pub view : IsViewOf marks here start (take around ss) body v now

-- no instance type has this index, or it was used, or it shows nothing, unless memory ran out
abbrev pub HasNoUsedView : List Bool → ℕ → State → List Slot → List ℕ → ℕ → Refusal → Type 0
HasNoUsedView marks here start ss used n e = (place : ℕ → Place) → AreMarked marks place
    → Refuses e (when (not (list_any (λ m. m == n) used)) (used_view (slots_at place start ss) (place here) (slice_get (slots_at place start ss) n)))

-- The scope has one more instance, under its key, and what it uses.
pub record IsInstanceAdded (old new : Scope) (is_import : Bool) (key : InstanceKey) (external_id : Option (Bor (List ℕ))) (n : ℕ) (view : View) : Type 0 where
  pub home : new.home ≡ old.home
  pub slots : new.slots ≡ old.slots
  pub instances : new.instances.items ≡ old.instances.items ++ record { place = place_number key; view = view } ∷ []
  pub used : new.used.keys ≡ old.used.keys ++ n ∷ []
  pub imports : new.imports.items ≡ (if is_import then old.imports.items ++ record
      { shown = shown.Instance key (length old.instances.items); external_id = external_id } ∷ [] else old.imports.items)
  pub exports : new.exports.items ≡ (if is_import then old.exports.items else old.exports.items ++ record
      { shown = shown.Instance key (length old.instances.items); external_id = external_id } ∷ [])

-- the slot that an alias takes over
abbrev pub taken_from : List (Option Text) → List Instance → Alias → Option Slot
taken_from paths is (Alias.of_export m name) = slot_of_instance paths name (slice_get is m)
taken_from paths is (Alias.of_outer scopes n) = None

-- ---- the whole

-- whether the slot of this number is no instance type, or one that is used
abbrev pub is_settled : List ℕ → ℕ → Slot → Bool
is_settled used n (slots.Value part) = true
is_settled used n (slots.Resource part) = true
is_settled used n (slots.Function f) = true
is_settled used n (slots.Instance b around) = list_any (λ m. m == n) used

abbrev pub are_settled : List ℕ → ℕ → List Slot → Bool
are_settled used n [] = true
are_settled used n (s ∷ ss) = is_settled used n s && are_settled used (suc n) ss

-- what the tables hold, with nothing in scope
abbrev pub start_of : ℕ → List Shape → List FunctionShape → List (Option Text) → World
start_of home shapes fs paths = record {
  home = home;
  shapes = shapes;
  signatures = fs;
  paths = paths;
  slots = [];
  instances = [];
  imports = [];
  exports =
      [];
  used = [];
}

-- The tables grow, by no more types than the entries and the instance types among them declare, names stand in their places, new places with a path are
-- met, in their order, and the scope stands for what they show. So it did behind each number of entries. The types that came into the table are those that
-- the entries declare, in their order, each over the names of its scope.
pub record IsScopeOf (shapes : List Shape) (fs : List FunctionShape) (paths : List (Option Text)) (b : Body) (now : World) : Type 0 where
  pub world : IsWorld now
  pub shapes_grow : Grows shapes now.shapes
  pub signatures_grow : Grows fs now.signatures
  pub paths_grow : Grows paths now.paths
  pub count : length now.shapes ≤ length shapes + weights (items_in entry_at b)
  pub placed : IsPlacedWorld shapes (length paths) now
  pub met : ArePathsMet (length paths) now.paths now.instances
  pub order : ArePathsInOrder (length paths) now.paths now.instances
  pub stages : HasStages shapes (length paths) (items_in entry_at b) (length (items_in entry_at b)) now
  pub parts : List (Option ℕ × ℕ)
  pub counted : CountUp (length shapes) (bare_parts parts) (length now.shapes)
  pub trees : (place : ℕ → Place) → ArePlacesOf now.paths place → scoped_trees (world_trees place now) parts ≡ trees_along new_scope (items_in entry_at b)
  pub scoped : AreScopedIn now parts
  pub shows : (place : ℕ → Place) → ArePlacesOf now.paths place → entry_scope (items_in entry_at b) ≡ Some (meant_at place now)
