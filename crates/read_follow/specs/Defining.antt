-- A definition takes the next slot of a scope.
use Rattle.std.specs.Prelude.{◌≡◌, ◌⊎◌, ◌<◌, ◌≤◌, ◌+◌, ℕ, true, List, [], ◌∷◌, ◌++◌, length, Some, slice_get}
use Rattle.std.specs.List.{AllByRecursion}
use Rattle.wit_model.specs.{Meaning.Signature, Text.Text, Tree.Form, Tree.Place, Tree.Tree}
use Rattle.comp_bytes.specs.Raw.{DefinedType, FunctionType}
use Rattle.comp_meaning.specs.Follow.{definition, function_signature}
use Rattle.read_follow.specs.declared.{refusal.Refusal.Refusal, slots.Slot.Slot}
use Rattle.read_follow.specs.{Found.Refuses, Functions.FunctionShape, Functions.IsFunctionIn, Functions.Joins, Functions.signature_in, Numbering.IsNext}
use Rattle.read_follow.specs.Slots.{slots_in, AreInRange, AreNames}
use Rattle.plan_meaning.specs.{PlanRules.is_form, Shapes.Shape, Shapes.named_shape, Shapes.node_shape, Shapes.part_tree, Shapes.shape_trees}
use Rattle.read_follow.specs.declared.slots.Slot.TheVariants as slots

-- The list has what it had, and perhaps more behind it.
pub record Grows {X : Type 0} (old new : List X) : Type 0 where
  pub more : List X
  pub is : new ≡ old ++ more

-- each name stands in one of the first so many places
abbrev pub IsPlacedBelow : ℕ → Shape → Type 0
IsPlacedBelow m s = s.sort ≡ 0 → s.number < m

abbrev pub ArePlacedBelow : ℕ → List Shape → Type 0
ArePlacedBelow m shapes = AllByRecursion (IsPlacedBelow m) shapes

-- No name comes into a table, and each form that does is one that a definition may have.
pub record AddsForms (shapes more : List Shape) : Type 0 where
  pub names : (n q : ℕ) (name : Text) → slice_get more n ≡ Some (named_shape q name) → n < length shapes
  pub formed : (n : ℕ) (form : Form) (parts : List ℕ) → slice_get more n ≡ Some (node_shape form parts) → (n < length shapes) ⊎ (is_form form parts ≡ true)

-- The next slot is a part, and it stands for what the definition stands for. If the part isn't in the table already, it is the one that comes into it. No
-- name comes into the table.
pub record IsDefined (shapes : List Shape) (old : List Slot) (d : DefinedType) (more : List Shape) (new : List Slot) : Type 0 where
  pub part : ℕ
  pub next : new ≡ old ++ slots.Value part ∷ []
  pub range : part < 14 + length more
  pub grown : Grows shapes more
  pub count : length more ≤ length shapes + 1
  pub counted : IsNext part (length shapes) (length more)
  pub placed : (m : ℕ) → ArePlacedBelow m shapes → ArePlacedBelow m more
  pub forms : AddsForms shapes more
  pub found : (place : ℕ → Place) (F : List Signature) → AreNames (shape_trees place shapes) old
      → definition (slots_in (shape_trees place shapes) F old) d ≡ Some (part_tree (shape_trees place more) part)

-- the definition stands for nothing, unless memory ran out
abbrev pub IsUndefined : List Shape → List Slot → DefinedType → Refusal → Type 0
IsUndefined shapes old d e = (place : ℕ → Place) (F : List Signature) → AreNames (shape_trees place shapes) old
    → Refuses e (definition (slots_in (shape_trees place shapes) F old) d)

-- The next slot is a function, and its number that of what the type of a function stands for.
pub record IsDefinedFunction (fs : List FunctionShape) (old : List Slot) (f : FunctionType) (more : List FunctionShape) (new : List Slot) : Type 0 where
  pub number : ℕ
  pub shape : FunctionShape
  pub next : new ≡ old ++ slots.Function number ∷ []
  pub at : slice_get more number ≡ Some shape
  pub joins : Joins fs shape more
  pub ranges : (n : ℕ) → AreInRange n old → IsFunctionIn n shape
  pub found : (T : List Tree) (F : List Signature) → function_signature (slots_in T F old) f ≡ Some (signature_in T shape)
