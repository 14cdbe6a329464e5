-- Scopes of instance types as they are kept, and what their exports declare.
use Rattle.std.specs.Prelude.{◌≡◌, ◌<◌, ◌≤◌, ℕ, ◌+◌, ◌-◌, ◌==◌, ◌&&◌, nat_lt, if◌then◌else◌, Bool, true, false, List, [], length, map, IfErr, OnOk, Option, Some, None, Result, slice_get, unwrap_or}
use Rattle.std.specs.List.{AllByRecursion}
use Rattle.wit_model.specs.{Text.Text, Tree.Place, Tree.Tree}
use Rattle.comp_bytes.specs.{Raw.Alias, Raw.Declaration, Reading.◌>>=◌, Reading.sequence_at}
use Rattle.comp_meaning.specs.Follow.{InstanceScope as MeantScope, Slot as Meant, instance_step, instance_steps, instance_view, new_instance, provided}
use Rattle.read_follow.specs.declared.{bodies.Body.Body, shows.NewName.NewName, refusal.Refusal.Refusal, slots.Slot.Slot, views.InstanceScope.InstanceScope}
use Rattle.read_follow.specs.declared.views.View.{View}
use Rattle.read_follow.specs.{Bodies.held_declaration_at, Bodies.items_in, Found.Refuses, Placed.apart, Placed.MayMeet, Placed.TreeOver, Slots.slots_in}
use Rattle.read_follow.specs.{Defining.Grows, Functions.functions_in, Functions.FunctionShape, Numbering.held_trees, Numbering.parts_in, Numbering.CountUp}
use Rattle.read_follow.specs.Following.{declared_in, scope_at, slots_at, trees_at, view_at, AreMarked, AreTables, Halts, IsPlacedState, IsShownFunctionIn, IsShownIn, IsState, State, Steps}
use Rattle.plan_meaning.specs.Shapes.{Shape, part_tree, shape_trees}
use Rattle.wit_model.specs.Tree as tree
use Rattle.comp_meaning.specs.Follow as follow
use Rattle.read_follow.specs.declared.slots.Slot.TheVariants as slots

-- the scope over the tables
abbrev pub state_of : List Shape → List FunctionShape → InstanceScope → State
state_of shapes fs s = record { shapes = shapes; signatures = fs; slots = s.slots.items; types = s.types.items; functions = s.functions.items }

-- A scope that is kept goes on by this step in this place, whatever types of functions it is kept with. The table of types was the first list, and is the
-- second.
abbrev pub StepsBy : {A : Type 0} → List Bool → ℕ → ((ℕ → Place) → MeantScope → Option MeantScope) → List Shape → List Shape → InstanceScope → InstanceScope
    → Result A Refusal → Type 0
StepsBy marks here step before after old new result = (fs : List FunctionShape) → IsState (length marks) (state_of before fs old)
    → OnOk result (Steps marks here 1 step (state_of before fs old) (state_of after fs new))

-- the same where the place is one of those that are marked
abbrev pub StepsHereBy : {A : Type 0} → List Bool → ℕ → ((ℕ → Place) → MeantScope → Option MeantScope) → List Shape → List Shape → InstanceScope → InstanceScope
    → Result A Refusal → Type 0
StepsHereBy marks here step before after old new result =
    (fs : List FunctionShape) → IsState (length marks) (state_of before fs old) → here < length marks
    → OnOk result (Steps marks here 1 step (state_of before fs old) (state_of after fs new))

-- a refusal of it: the step makes nothing of the scope, unless memory ran out
abbrev pub HaltsBy : {A : Type 0} → List Bool → ((ℕ → Place) → MeantScope → Option MeantScope) → List Shape → InstanceScope → Result A Refusal → Type 0
HaltsBy marks step before old result = (fs : List FunctionShape) → IsState (length marks) (state_of before fs old)
    → IfErr result (Halts marks step (state_of before fs old))

-- the name in its place, as a resource or as a type of a value
abbrev pub name_meant : Bool → Place → Text → Meant
name_meant true place name = follow.resource place name
name_meant false place name = follow.value (Tree.named place name)

-- what is declared, and what the index of its name stands for
abbrev pub named_by : List Tree → Place → Text → NewName → tree.TypeDeclaration × Meant
named_by T place name x = (declared_in T x.declared, name_meant x.is_resource place name)

abbrev pub name_slot : Bool → ℕ → Slot
name_slot true part = slots.Resource part
name_slot false part = slots.Value part

-- ---- aliases

-- the number of the place of a name
abbrev pub name_place : Option Shape → Option ℕ
name_place None = None
name_place (Some s) = if s.sort == 0 then Some s.number else None

-- the number of the place of a part that is a name
abbrev pub place_in : List Shape → ℕ → Option ℕ
place_in shapes part = if nat_lt part 14 then None else name_place (slice_get shapes (part - 14))

-- whether the place of this number, if there is one, is marked
abbrev pub is_marked : List Bool → Option ℕ → Bool
is_marked marks None = false
is_marked marks (Some p) = unwrap_or (slice_get marks p) false

abbrev pub foreign_part : List Bool → List Shape → ℕ → Bool
foreign_part marks shapes part = is_marked marks (place_in shapes part)

abbrev pub foreign_slot : List Bool → List Shape → Slot → Bool
foreign_slot marks shapes (slots.Value part) = foreign_part marks shapes part
foreign_slot marks shapes (slots.Resource part) = foreign_part marks shapes part
foreign_slot marks shapes (slots.Function n) = false
foreign_slot marks shapes (slots.Instance b n) = false

-- ---- one declaration

-- what the definition does with a declaration, where these slots stand around
abbrev pub step_of : ℕ → List Shape → List FunctionShape → List Slot → Declaration → (ℕ → Place) → MeantScope → Option MeantScope
step_of here shapes fs outer d place meant = instance_step (place here)
    (slots_in (shape_trees place shapes) (functions_in (shape_trees place shapes) fs) outer) meant d

-- the slot that an alias takes over, where these slots stand around
abbrev pub taken_by : List Bool → List Shape → List Slot → Alias → Option Slot
taken_by marks shapes outer (Alias.of_export m name) = None
taken_by marks shapes outer (Alias.of_outer scopes n) = slice_get outer n >>= λ s. provided (scopes == 1 && foreign_slot marks shapes s) s

-- ---- all declarations

-- So many declarations of a body have been followed. Those that are left decide what it shows.
pub record IsFollowed (marks : List Bool) (here : ℕ) (start : State) (outer : List Slot) (b : Body) (i : ℕ) (rest : List ℕ) (now : State) : Type 0 where
  pub state : IsState (length marks) now
  pub shapes_grow : Grows start.shapes now.shapes
  pub signatures_grow : Grows start.signatures now.signatures
  pub count : length now.shapes ≤ length start.shapes + i
  pub counted : CountUp (length start.shapes) (parts_in now.slots) (length now.shapes)
  pub placed : IsPlacedState marks start.shapes here now
  pub ds : List Declaration
  pub left : sequence_at held_declaration_at (b.count - i) rest ≡ Some (ds, [])
  pub follows : (place : ℕ → Place) → AreMarked marks place
      → instance_steps (place here) (slots_at place start outer) (scope_at place now) ds ≡ instance_steps (place here) (slots_at place start outer) new_instance
      (items_in held_declaration_at b)

-- what the tables hold, with nothing in scope
abbrev pub tables_of : List Shape → List FunctionShape → State
tables_of shapes fs = record { shapes = shapes; signatures = fs; slots = []; types = []; functions = [] }

-- the view over the tables
abbrev pub viewed_over : List Shape → List FunctionShape → View → State
viewed_over shapes fs v = record { shapes = shapes; signatures = fs; slots = []; types = v.types.items; functions = v.functions.items }

-- The tables grow by a type for each declaration at most, and by just the types that the body declares, in their order, over names of the own place and of
-- those that are marked. Names stand in their places, and the view stands for what the body shows.
pub record IsViewOf (marks : List Bool) (here : ℕ) (start : State) (outer : List Slot) (b : Body) (v : View) (now : State) : Type 0 where
  pub tables : AreTables (length marks) now.shapes now.signatures
  pub types : AllByRecursion (IsShownIn now.shapes now.signatures) v.types.items
  pub functions : AllByRecursion (IsShownFunctionIn now.signatures) v.functions.items
  pub shapes_grow : Grows start.shapes now.shapes
  pub signatures_grow : Grows start.signatures now.signatures
  pub count : length now.shapes ≤ length start.shapes + b.count
  pub parts : List ℕ
  pub counted : CountUp (length start.shapes) parts (length now.shapes)
  pub trees : (place : ℕ → Place) → AreMarked marks place
      → held_trees (instance_steps (place here) (slots_at place start outer) new_instance (items_in held_declaration_at b))
      ≡ map (part_tree (trees_at place now)) parts
  pub over : AllByRecursion (λ part. TreeOver (MayMeet marks here) (part_tree (trees_at apart now) part)) parts
  pub placed : IsPlacedState marks start.shapes here (viewed_over now.shapes now.signatures v)
  pub shows : (place : ℕ → Place) → AreMarked marks place
      → instance_view (place here) (slots_at place start outer) (items_in held_declaration_at b) ≡ Some (view_at place now v.types.items v.functions.items)

-- the body shows nothing, unless memory ran out
abbrev pub ShowsNothing : List Bool → ℕ → State → List Slot → Body → Refusal → Type 0
ShowsNothing marks here start outer b e = (place : ℕ → Place) → AreMarked marks place
    → Refuses e (instance_view (place here) (slots_at place start outer) (items_in held_declaration_at b))
