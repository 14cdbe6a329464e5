-- The worlds of a plan, each by what its component type shows (WIT.md, "Worlds"; Binary.md, "Import and Export Definitions").
use Rattle.std.specs.Prelude.{◌≡◌, ◌≤◌, ◌+◌, ℕ, true, List, [], ◌∷◌, Option, Some}
use Rattle.std.specs.{Borrow.Bor, List.AllByRecursion, List.AllZip, List.flat_map}
use Rattle.wit_model.specs.declared.model.TypeId.{TypeId}
use Rattle.wit_model.specs.{Text.Text, Uses.has}
use Rattle.plan_meaning.specs.NumberedViews.{NumberedType, PartsOf, Tables, function_at, value}
use Rattle.plan_meaning.specs.NumberedWorlds.{NumberedKey, place_of_key}
use Rattle.plan_meaning.specs.{Plan.PlannedFunction, Plan.PlannedItem, Plan.PlannedKey, Plan.PlannedWorld, Renumbering.IsPart}
use Rattle.plan_parts.specs.{Interfaces.AreResources, Interfaces.IsPlannedFunction, Kept.IsKeptPart}
use Rattle.read_rules.specs.declared.{scopes.InstanceKey.InstanceKey, scopes.Scope.Scope, scopes.Seen.Seen, scopes.Shown.Shown, views.View.View}
use Rattle.read_rules.specs.{Scopes.numbered_key, Tables.given_text}
use Rattle.read_exports.specs.declared.members.{Member.Member, Part.Part}
use Rattle.plan_types.specs.PlannedTypes.{number_in}
use Rattle.plan_meaning.specs.NumberedWorlds as worlds
use Rattle.plan_meaning.specs.Plan as plan
use Rattle.read_rules.specs.declared.scopes.Shown.TheVariants as shown
use Rattle.read_exports.specs.declared.members.Part.TheVariants as parts

-- ---- imports and exports

-- the types that an import declares, under its key
abbrev pub types_shown : Text → Option Text → Shown → List NumberedType
types_shown key external_id (shown.Declares part d) = record { name = key; declared = d; external_id = external_id; slot = value part } ∷ []
types_shown key external_id (shown.Function n) = []
types_shown key external_id (shown.Instance k v) = []

abbrev pub types_seen : Seen → List NumberedType
types_seen s = types_shown s.key.now (given_text s.external_id) s.shown

-- under what an instance stands, by the number of its interface
abbrev pub planned_key : NumberedKey → ℕ → PlannedKey
planned_key (worlds.path p) n = plan.path_of n
planned_key (worlds.label l p) n = plan.label l
planned_key (worlds.implementing l p) n = plan.label l

-- The interface has the number of its place among some, and stands under its path or a label.
pub record PlansInstance (places : List ℕ) (key : NumberedKey) (external_id : Option Text) (e : PlannedKey × PlannedItem) : Type 0 where
  pub number : ℕ
  pub found : number_in places (place_of_key key) ≡ Some number
  pub is : e ≡ (planned_key key number, plan.interface number external_id)

-- the function of the type of this number, under its name
pub record PlansFunction (t : Tables) (kept : List ℕ) (find : Text → Option TypeId) (name : Text) (signature : ℕ) (external_id : Option Text)
    (i : PlannedItem) : Type 0 where
  pub function : PlannedFunction
  pub is : i ≡ plan.function function
  pub planned : IsPlannedFunction t kept find (name, record { signature = signature; external_id = external_id }) (name, function)

-- What an import or an export becomes: an interface by its number, a function over the types that are kept, or the new number of a type.
pub data PlansItem (t : Tables) (kept : List ℕ) (places : List ℕ) (find : Text → Option TypeId) (s : Seen) (e : PlannedKey × PlannedItem) : Type 0 where
  an_instance : (key : InstanceKey) (v : View) → s.shown ≡ shown.Instance key v → PlansInstance places (numbered_key key) (given_text s.external_id) e
      → PlansItem t kept places find s e
  a_function : (n : ℕ) → s.shown ≡ shown.Function n → e.0 ≡ plan.label s.key.now → PlansFunction t kept find s.key.now n (given_text s.external_id) e.1
      → PlansItem t kept places find s e
  a_type : (part : ℕ) (d : Option ℕ) (n : ℕ) → s.shown ≡ shown.Declares part d → e ≡ (plan.label s.key.now, plan.declares n) → IsPart kept part (14 + n)
      → PlansItem t kept places find s e

-- what it is over is kept: the parts of a function, or the name of a type
abbrev pub ShownIsKept : Tables → List ℕ → Shown → Type 0
ShownIsKept t kept (shown.Instance key v) = Unit {0}
ShownIsKept t kept (shown.Function n) = PartsOf (IsKeptPart kept) (function_at t n)
ShownIsKept t kept (shown.Declares part d) = (14 ≤ part) × IsKeptPart kept part

abbrev pub SeenIsKept : Tables → List ℕ → Seen → Type 0
SeenIsKept t kept s = ShownIsKept t kept s.shown

-- the place is among these
abbrev pub IsAmong : List ℕ → ℕ → Type 0
IsAmong places p = has places p ≡ true

-- the place of an instance is
abbrev pub ShownIsPlaced : List ℕ → Shown → Type 0
ShownIsPlaced places (shown.Instance key v) = IsAmong places (place_of_key (numbered_key key))
ShownIsPlaced places (shown.Function n) = Unit {0}
ShownIsPlaced places (shown.Declares part d) = Unit {0}

abbrev pub SeenIsPlaced : List ℕ → Seen → Type 0
SeenIsPlaced places s = ShownIsPlaced places s.shown

-- ---- worlds

-- All that is imported and exported is over what is kept.
pub record WorldIsKept (t : Tables) (kept : List ℕ) (w : Scope) : Type 0 where
  pub imports : AllByRecursion (SeenIsKept t kept) w.imports.now
  pub exports : AllByRecursion (SeenIsKept t kept) w.exports.now

-- The places of all instances are among these.
pub record WorldIsPlaced (places : List ℕ) (w : Scope) : Type 0 where
  pub imports : AllByRecursion (SeenIsPlaced places) w.imports.now
  pub exports : AllByRecursion (SeenIsPlaced places) w.exports.now

-- Under its label in the main package: its imports and its exports in order, beside the resources that it imports.
pub record PlansWorld (t : Tables) (kept : List ℕ) (places : List ℕ) (main : ℕ) (w : Text × Scope) (x : PlannedWorld) : Type 0 where
  pub name : x.name ≡ w.0
  pub package_ : x.package_ ≡ Some main
  pub find : Text → Option TypeId
  pub resources : AreResources kept (flat_map types_seen w.1.imports.now) find
  pub imports : AllZip (PlansItem t kept places find) w.1.imports.now x.imports
  pub exports : AllZip (PlansItem t kept places find) w.1.exports.now x.exports

-- a world with its label
abbrev pub labelled : Bor (List ℕ) × Scope → Text × Scope
labelled x = (x.0.now, x.1)

-- the world that is exported under a label, if it is one
abbrev pub world_in_part : Text → Part → List (Text × Scope)
world_in_part label (parts.World w) = (label, w) ∷ []
world_in_part label (parts.Interface p v imports) = []

-- the worlds that are exported, in order, with their labels
abbrev pub worlds_in : List Member → List (Text × Scope)
worlds_in ms = flat_map (λ m. world_in_part m.label.now m.part) ms
