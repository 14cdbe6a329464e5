-- The key of a definition: its form, over the parts that its indexes stand for.
use Rattle.std.specs.Prelude.{◌≡◌, ◌<◌, ◌+◌, ℕ, Bool, true, false, List, map, Some, Result, Ok, Err}
use Rattle.std.specs.List.{AllByRecursion}
use Rattle.wit_model.specs.{Meaning.Signature, Tree.Form, Tree.Tree, Tree.children}
use Rattle.comp_bytes.specs.declared.forms.ComponentDefinedType.{ComponentDefinedType}
use Rattle.comp_bytes.specs.Raw.{DefinedType}
use Rattle.comp_meaning.specs.Follow.{definition, is_key, is_key_primitive}
use Rattle.read_follow.specs.declared.{definition_keys.Definition.Definition, keys.Key.Key, refusal.Refusal.Refusal, slots.Slot.Slot}
use Rattle.read_follow.specs.{Found.Refuses, KeyShapes.shape_of, Slots.slots_in, Slots.AreInRange, Slots.AreNames}
use Rattle.plan_meaning.specs.{PlanRules.is_form, Shapes.Shape, Shapes.node_shape, Shapes.part_tree, Shapes.primitives}
use Rattle.comp_bytes.specs.declared.forms.ComponentDefinedType.TheVariants as forms
use Rattle.read_follow.specs.declared.definition_keys.Definition.TheVariants as definitions

-- of each primitive, whether a map may have it as its key
abbrev pub key_marks : List Bool
key_marks = map is_key_primitive primitives

-- no type of the table may be the key of a map
abbrev pub HasNoKeys : List Tree → Type 0
HasNoKeys T = (n : ℕ) → is_key (part_tree T (14 + n)) ≡ false

-- The shape is a form over parts, one that a definition may have, and that form over what the parts stand for is what the definition stands for,
-- whatever the table.
pub record IsNodeOf (s : Shape) (ss : List Slot) (d : DefinedType) : Type 0 where
  pub form : Form
  pub parts : List ℕ
  pub shape : s ≡ node_shape form parts
  pub ranges : (n : ℕ) → AreInRange n ss → AllByRecursion (λ k. k < 14 + n) parts
  pub formed : is_form form parts ≡ true
  pub found : (T : List Tree) (F : List Signature) → AreNames T ss → HasNoKeys T
      → definition (slots_in T F ss) d ≡ Some (Tree.node form (children (map (part_tree T) parts)))

-- The key is of what the definition stands for; or it stands for nothing, unless memory ran out.
abbrev pub IsKeyOf : List Slot → DefinedType → Result Key Refusal → Type 0
IsKeyOf ss d (Ok k) = IsNodeOf (shape_of k) ss d
IsKeyOf ss d (Err e) = (T : List Tree) (F : List Signature) → AreNames T ss → HasNoKeys T → Refuses e (definition (slots_in T F ss) d)

-- a definition that is no primitive
abbrev pub IsForm : ComponentDefinedType → Type 0
IsForm (forms.Primitive p) = ⊥
IsForm _ = Unit {0}

-- What is answered is what the definition stands for, or it stands for nothing, unless memory ran out.
abbrev pub IsDefinitionOf : List Slot → DefinedType → Result Definition Refusal → Type 0
IsDefinitionOf ss d (Ok (definitions.Part k)) = (k < 14) × ((T : List Tree) (F : List Signature) → definition (slots_in T F ss) d ≡ Some (part_tree T k))
IsDefinitionOf ss d (Ok (definitions.Keyed key)) = IsNodeOf (shape_of key) ss d
IsDefinitionOf ss d (Err e) = (T : List Tree) (F : List Signature) → AreNames T ss → HasNoKeys T → Refuses e (definition (slots_in T F ss) d)
