-- A table of types of functions, each kept once, over the numbers of the types of their parameters and results
-- (Binary.md, "Type Definitions": functype).
use Rattle.std.specs.Prelude.{◌≡◌, ◌<◌, ◌+◌, ℕ, Bool, List, [], ◌∷◌, ◌++◌, length, map, option_map, slice_get, IfSome, Option, Some, Result, Ok, Err}
use Rattle.std.specs.{Borrow.Bor, List.AllByRecursion}
use Rattle.wit_model.specs.{Meaning.Signature, Text.Text, Tree.Place, Tree.Tree}
use Rattle.comp_bytes.specs.Raw.{FunctionType}
use Rattle.comp_meaning.specs.Follow.{function_signature}
use Rattle.plan_meaning.specs.Shapes.{Shape, part_tree, shape_trees, IsTable}
use Rattle.read_follow.specs.declared.{keys.FunctionKey.FunctionKey, refusal.Refusal.Refusal, slots.Slot.Slot}
use Rattle.read_follow.specs.{Found.Refuses, Slots.slots_in, Slots.AreInRange}

-- what the type of a function is, over parts
pub record FunctionShape : Type 0 where
  pub is_async : Bool
  pub params : List (Text × ℕ)
  pub outcome : Option ℕ

-- a parameter without where its name lies in memory
abbrev pub param_of : Bor (List ℕ) × ℕ → Text × ℕ
param_of p = (p.0.now, p.1)

-- what a key says, without where it lies in memory
abbrev pub function_shape : FunctionKey → FunctionShape
function_shape k = record { is_async = k.is_async; params = map param_of k.params.items; outcome = k.result }

-- a parameter with the type that its part stands for
abbrev pub param_tree : List Tree → Text × ℕ → Text × Tree
param_tree T p = (p.0, part_tree T p.1)

-- the type of a function, where T are the trees of the table
unfoldable pub signature_in : List Tree → FunctionShape → Signature
signature_in T s = record { is_async = s.is_async; params = map (param_tree T) s.params; result = option_map (part_tree T) s.outcome }

abbrev pub functions_in : List Tree → List FunctionShape → List Signature
functions_in T fs = map (signature_in T) fs

-- its parts are primitives, or among the first so many numbers
pub record IsFunctionIn (n : ℕ) (s : FunctionShape) : Type 0 where
  pub params : AllByRecursion (λ p. p.1 < 14 + n) s.params
  pub outcome : IfSome s.outcome (λ k. k < 14 + n)

abbrev pub AreFunctionsIn : ℕ → List FunctionShape → Type 0
AreFunctionsIn n fs = AllByRecursion (IsFunctionIn n) fs

-- None stands twice.
abbrev pub AreApart : {X : Type 0} → List X → Type 0
AreApart {X = X} xs = (n m : ℕ) (x : X) → slice_get xs n ≡ Some x → slice_get xs m ≡ Some x → n ≡ m

-- It is in the list already, or comes behind the others.
pub data Joins {X : Type 0} (old : List X) (x : X) : List X → Type 0 where
  stays : Joins old x old
  comes : ((n : ℕ) → slice_get old n ≡ Some x → ⊥) → Joins old x (old ++ x ∷ [])

-- The shape is over parts in range, and its signature is what the type of a function stands for, whatever the table.
pub record IsSignatureOf (s : FunctionShape) (ss : List Slot) (f : FunctionType) : Type 0 where
  pub ranges : (n : ℕ) → AreInRange n ss → IsFunctionIn n s
  pub found : (T : List Tree) (F : List Signature) → function_signature (slots_in T F ss) f ≡ Some (signature_in T s)

-- The key is of what the type of a function stands for; or it stands for nothing, unless memory ran out.
abbrev pub IsFunctionKeyOf : List Slot → FunctionType → Result FunctionKey Refusal → Type 0
IsFunctionKeyOf ss f (Ok k) = IsSignatureOf (function_shape k) ss f
IsFunctionKeyOf ss f (Err e) = (T : List Tree) (F : List Signature) → Refuses e (function_signature (slots_in T F ss) f)

-- Over a table whose places differ by number, equal signatures have one number.
abbrev pub OneFunctionNumber : Type 0
OneFunctionNumber = (place : ℕ → Place) → ((p q : ℕ) → place p ≡ place q → p ≡ q) → (shapes : List Shape) → IsTable shapes
    → (fs : List FunctionShape) → AreFunctionsIn (length shapes) fs → AreApart fs
    → (a b : ℕ) (f : Signature) → slice_get (functions_in (shape_trees place shapes) fs) a ≡ Some f
    → slice_get (functions_in (shape_trees place shapes) fs) b ≡ Some f → a ≡ b
