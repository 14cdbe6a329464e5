-- What holds of parts that were followed, in numbers. Each type that is shown is a name of its place in the table, behind what it is
-- declared as. Each name that is met is of the place itself or of an interface with a path (Binary.md, "Index Spaces" and "Import and
-- Export Definitions").
use Rattle.std.specs.Prelude.{◌≡◌, ◌<◌, ◌≤◌, ◌⊎◌, ◌+◌, ℕ, List, [], ◌∷◌, length, Option, Some, None, slice_get}
use Rattle.std.specs.List.{AllByRecursion, Contains}
use Rattle.wit_model.specs.Text.{Text}
use Rattle.plan_meaning.specs.NumberedMembers.{NumberedMember, NumberedPart, interface, world}
use Rattle.plan_meaning.specs.NumberedViews.{AllOf, HasNameIn, IsPart, NumberedFunction, NumberedSlot, NumberedType, NumberedView, PartsOf, Tables, function_at, path_at, resource, value}
use Rattle.plan_meaning.specs.NumberedWorlds as worlds
use Rattle.plan_meaning.specs.NumberedWorlds.{HasPath, KeyStands, NumberedInstance, NumberedScope, NumberedSeen, NumberedShown, place_of_key}
use Rattle.plan_meaning.specs.Shapes.{named_shape}

module _ (t : Tables) where
  -- a part whose names are of this place, or of places with a path
  pub record IsMetFrom (p k : ℕ) : Type 0 where
    pub range : IsPart t k
    pub names : (q : ℕ) → HasNameIn t.shapes k q → (q ≡ p) ⊎ HasPath t q

  -- the number of the name in the table, and what it is declared as before it
  pub record IsNameOf (p : ℕ) (name : Text) (d : Option ℕ) (n : ℕ) : Type 0 where
    pub named : slice_get t.shapes n ≡ Some (named_shape p name)
    pub behind : AllOf (λ k. k < 14 + n) d
    pub met : AllOf (IsMetFrom p) d

  -- the index of a type stands for its name, as a type of values or as a resource
  abbrev pub IsSlotOf : NumberedSlot → ℕ → Type 0
  IsSlotOf (value k) n = k ≡ 14 + n
  IsSlotOf (resource k) n = k ≡ 14 + n

  -- ---- views

  -- a type that a view shows in this place
  pub record IsShownIn (p : ℕ) (x : NumberedType) : Type 0 where
    pub number : ℕ
    pub name : IsNameOf p x.name x.declared number
    pub slot : IsSlotOf x.slot number

  -- a function that is shown in this place
  pub record IsCalledIn (p n : ℕ) : Type 0 where
    pub range : n < length t.functions
    pub parts : PartsOf (IsMetFrom p) (function_at t n)

  pub record IsViewIn (p : ℕ) (v : NumberedView) : Type 0 where
    pub types : AllByRecursion (IsShownIn p) v.types
    pub functions : AllByRecursion (λ (f : Text × NumberedFunction). IsCalledIn p f.1.signature) v.functions

  -- ---- worlds

  -- An import or an export of a world whose names are of this place.
  abbrev pub IsSeenIn : ℕ → NumberedSeen → Type 0
  IsSeenIn home s = of_shown s.shown
    where
      of_shown : NumberedShown → Type 0
      of_shown (worlds.instance key v) = KeyStands t key × IsViewIn (place_of_key key) v
      of_shown (worlds.function n) = IsCalledIn home n
      of_shown (worlds.declares d) = (n : ℕ) × IsNameOf home s.key d n

  -- an import or an export that is an instance is one of the scope's, in the place of its key
  abbrev pub IsOneOf : List NumberedInstance → NumberedShown → Type 0
  IsOneOf instances (worlds.instance key v) = Contains instances (record { place = place_of_key key; view = v })
  IsOneOf instances _ = Unit {0}

  pub record IsScopeIn (w : NumberedScope) : Type 0 where
    pub home : path_at t w.home ≡ None
    pub imports : AllByRecursion (IsSeenIn w.home) w.imports
    pub exports : AllByRecursion (IsSeenIn w.home) w.exports
    pub instances : AllByRecursion (λ (i : NumberedInstance). IsViewIn i.place i.view) w.instances
    pub imported : AllByRecursion (λ (s : NumberedSeen). IsOneOf w.instances s.shown) w.imports
    pub exported : AllByRecursion (λ (s : NumberedSeen). IsOneOf w.instances s.shown) w.exports

  -- ---- all that is exported

  abbrev pub IsPartIn : NumberedPart → Type 0
  IsPartIn (world w) = IsScopeIn w
  IsPartIn (interface p v imports) = (HasPath t p × IsViewIn p v) × AllByRecursion (λ (i : ℕ × NumberedView). HasPath t i.0 × IsViewIn i.0 i.1) imports

  abbrev pub AreMembersIn : List NumberedMember → Type 0
  AreMembersIn ms = AllByRecursion (λ m. IsPartIn m.part) ms
