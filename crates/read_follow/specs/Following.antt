-- Declarations of an instance type that are followed one after the other: what their scope stands for, and what each of them does to it.
use Rattle.std.specs.Prelude.{◌≡◌, ◌⊎◌, ◌<◌, ◌≤◌, ◌+◌, ℕ, Bool, false, true, List, length, map, option_map, slice_get, unwrap_or, IfSome, Option, Some, None}
use Rattle.std.specs.List.{AllByRecursion}
use Rattle.wit_model.specs.{Meaning.FunctionMeaning, Meaning.Signature, Text.Text, Tree.Form, Tree.Place, Tree.Tree}
use Rattle.comp_bytes.specs.RawOf.{text_of}
use Rattle.comp_meaning.specs.Follow.{InstanceScope as MeantScope, ShownType as MeantType, View as MeantView, Slot as Meant}
use Rattle.read_follow.specs.declared.{refusal.Refusal.Refusal, slots.Slot.Slot, views.ShownFunction.ShownFunction, views.ShownType.ShownType}
use Rattle.read_follow.specs.{Bodies.held_declaration_at, Bodies.IsBody, Defining.ArePlacedBelow, Defining.Grows, Numbering.parts_in, Numbering.CountUp}
use Rattle.read_follow.specs.Found.{Refuses}
use Rattle.read_follow.specs.{Functions.functions_in, Functions.AreFunctionsIn, Functions.FunctionShape, Slots.slot_in, Slots.slots_in, Slots.no_signature}
use Rattle.read_follow.specs.Placed.{apart, HasNoNames, IsShownAmong, IsTypeNamed, MayMeet, Rise, SlotOver, ViewOver}
use Rattle.plan_meaning.specs.PlanRules.{is_form}
use Rattle.plan_meaning.specs.Shapes.{Shape, named_shape, node_shape, part_tree, shape_trees, IsTable}
use Rattle.wit_model.specs.Tree as tree
use Rattle.read_follow.specs.declared.slots.Slot.TheVariants as slots

-- ---- what was kept, as what it stands for

-- what a name is declared as: a part, or a resource of its own
abbrev pub declared_in : List Tree → Option ℕ → tree.TypeDeclaration
declared_in T None = tree.TypeDeclaration.resource
declared_in T (Some k) = tree.TypeDeclaration.type_ (part_tree T k)

abbrev pub shown_type : List Tree → List Signature → ShownType → MeantType
shown_type T F s = record {
  name = s.name.now;
  meaning = record { declaration = declared_in T s.declared; external_id = option_map text_of s.external_id };
  slot = slot_in T F s.slot;
}

abbrev pub shown_function : List Signature → ShownFunction → Text × FunctionMeaning
shown_function F f = (f.name.now, record { signature = unwrap_or (slice_get F f.function) no_signature; external_id = option_map text_of f.external_id })

-- The tables of a whole input, and a scope over them.
pub record State : Type 0 where
  pub shapes : List Shape
  pub signatures : List FunctionShape
  pub slots : List Slot
  pub types : List ShownType
  pub functions : List ShownFunction

abbrev pub trees_at : (ℕ → Place) → State → List Tree
trees_at place s = shape_trees place s.shapes

abbrev pub signatures_at : (ℕ → Place) → State → List Signature
signatures_at place s = functions_in (shape_trees place s.shapes) s.signatures

-- what slots stand for, over the tables of a state
abbrev pub slots_at : (ℕ → Place) → State → List Slot → List Meant
slots_at place s ss = slots_in (trees_at place s) (signatures_at place s) ss

abbrev pub view_at : (ℕ → Place) → State → List ShownType → List ShownFunction → MeantView
view_at place s ts fs = record {
  types = map (shown_type (trees_at place s) (signatures_at place s)) ts;
  functions =
      map (shown_function (signatures_at place s)) fs;
}

-- what the scope stands for
abbrev pub scope_at : (ℕ → Place) → State → MeantScope
scope_at place s = record { slots = slots_at place s s.slots; shown = view_at place s s.types s.functions }

-- ---- what is well-formed

-- the part is a name of the table
pub record IsNamePart (shapes : List Shape) (part : ℕ) : Type 0 where
  pub number : ℕ
  pub place : ℕ
  pub name : Text
  pub is : part ≡ 14 + number
  pub at : slice_get shapes number ≡ Some (named_shape place name)

-- Its part or its number is in range, a resource is a name, and the bytes of an instance type are its declarations.
abbrev pub IsSlotIn : List Shape → List FunctionShape → Slot → Type 0
IsSlotIn shapes fs (slots.Value part) = part < 14 + length shapes
IsSlotIn shapes fs (slots.Resource part) = IsNamePart shapes part
IsSlotIn shapes fs (slots.Function n) = n < length fs
IsSlotIn shapes fs (slots.Instance b n) = IsBody held_declaration_at b

abbrev pub AreSlotsIn : List Shape → List FunctionShape → List Slot → Type 0
AreSlotsIn shapes fs ss = AllByRecursion (IsSlotIn shapes fs) ss

-- the slot is the type of a value, or a resource
abbrev pub IsTypeSlot : Slot → Type 0
IsTypeSlot (slots.Value part) = Unit {0}
IsTypeSlot (slots.Resource part) = Unit {0}
IsTypeSlot (slots.Function n) = ⊥
IsTypeSlot (slots.Instance b n) = ⊥

pub record IsShownIn (shapes : List Shape) (fs : List FunctionShape) (s : ShownType) : Type 0 where
  pub slot : IsSlotIn shapes fs s.slot
  pub declared : IfSome s.declared (λ k. k < 14 + length shapes)
  pub kind : IsTypeSlot s.slot

abbrev pub IsShownFunctionIn : List FunctionShape → ShownFunction → Type 0
IsShownFunctionIn fs f = f.function < length fs

-- so many places, well-formed tables, and types of functions over the types
pub record AreTables (m : ℕ) (shapes : List Shape) (fs : List FunctionShape) : Type 0 where
  pub table : IsTable shapes
  pub placed : ArePlacedBelow m shapes
  pub signatures : AreFunctionsIn (length shapes) fs

-- the tables are well-formed, and the scope is one over them
pub record IsState (m : ℕ) (s : State) : Type 0 where
  pub tables : AreTables m s.shapes s.signatures
  pub slots : AreSlotsIn s.shapes s.signatures s.slots
  pub types : AllByRecursion (IsShownIn s.shapes s.signatures) s.types
  pub functions : AllByRecursion (IsShownFunctionIn s.signatures) s.functions

-- ---- places

abbrev pub is_path : Place → Bool
is_path (Place.of_interface path) = true
is_path Place.here = false

-- each mark says whether the place of its number is that of an interface with a path
abbrev pub AreMarked : List Bool → (ℕ → Place) → Type 0
AreMarked marks place = (n : ℕ) (b : Bool) → slice_get marks n ≡ Some b → is_path (place n) ≡ b

-- ---- names in their places

-- Slots and what is shown are over names of the own place and of those that are marked, and what is shown stands for its name. The names that came
-- into the table behind these shapes are shown, each in the own place; and if that had none before, they came behind what they are over. The forms that
-- came into it are those that definitions may have.
pub record IsPlacedState (marks : List Bool) (before : List Shape) (here : ℕ) (s : State) : Type 0 where
  pub grows : Grows before s.shapes
  pub slots : AllByRecursion (SlotOver (MayMeet marks here)) (slots_at apart s s.slots)
  pub shown : ViewOver (MayMeet marks here) (view_at apart s s.types s.functions)
  pub named : AllByRecursion (IsTypeNamed s.shapes here) s.types
  pub names : (n q : ℕ) (name : Text) → slice_get s.shapes n ≡ Some (named_shape q name) → (n < length before)
      ⊎ ((q ≡ here) × IsShownAmong s.types name (14 + n))
  pub rise : HasNoNames here before → Rise s.types
  pub formed : (n : ℕ) (form : Form) (parts : List ℕ) → slice_get s.shapes n ≡ Some (node_shape form parts) → (n < length before) ⊎ (is_form form parts ≡ true)

-- ---- steps

-- The tables grow by this many types at most, which are those of the scope's slots in their order, names stay in their places, and the scope becomes what
-- the step of the definition makes of it.
pub record Steps (marks : List Bool) (here few : ℕ) (step : (ℕ → Place) → MeantScope → Option MeantScope) (old new : State) : Type 0 where
  pub state : IsState (length marks) new
  pub shapes_grow : Grows old.shapes new.shapes
  pub signatures_grow : Grows old.signatures new.signatures
  pub count : length new.shapes ≤ length old.shapes + few
  pub counted : (from : ℕ) → CountUp from (parts_in old.slots) (length old.shapes) → CountUp from (parts_in new.slots) (length new.shapes)
  pub placed : (before : List Shape) → IsPlacedState marks before here old → IsPlacedState marks before here new
  pub follows : (place : ℕ → Place) → AreMarked marks place → step place (scope_at place old) ≡ Some (scope_at place new)

-- the step of the definition makes nothing of it, unless memory ran out
abbrev pub Halts : List Bool → ((ℕ → Place) → MeantScope → Option MeantScope) → State → Refusal → Type 0
Halts marks step old e = (place : ℕ → Place) → AreMarked marks place → Refuses e (step place (scope_at place old))
