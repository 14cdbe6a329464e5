-- The order in which types are numbered that are decoded of bytes: that in which the bytes declare them (Component Model Binary.md, "Index Spaces").
use Rattle.std.specs.Prelude.{◌≡◌, ◌⊎◌, ◌<◌, ◌&&◌, ℕ, zero, suc, Bool, true, false, List, [], ◌∷◌, ◌++◌, length, Option, Some, None, option_to_list, slice_get}
use Rattle.std.specs.List.{AllZip, Contains, flat_map}
use Rattle.wit_model.specs.declared.model.Resolve.{Resolve}
use Rattle.wit_model.specs.{Parts.met_by, Parts.met_of, Types.number_tree, Uses.once}
use Rattle.wit_model.specs.Tree.{Place, Tree, Trees, primitive, named, node, no_children, child}
use Rattle.read_parts.specs.Members.{DeclaringScope}

abbrev mutual
  -- whether each name in a type is of an interface with a path: such a type is the same wherever it is declared
  pub is_pathed : Tree → Bool
  is_pathed (primitive p) = true
  is_pathed (named (Place.of_interface path) name) = true
  is_pathed (named Place.here name) = false
  is_pathed (node form ts) = are_pathed ts

  -- whether it is so in each of these types
  pub are_pathed : Trees → Bool
  are_pathed no_children = true
  are_pathed (child t ts) = is_pathed t && are_pathed ts

-- The number under which the `Resolve` has a type that is declared, if it has it.
abbrev pub HasNumber : Resolve → Tree → Option ℕ → Type 0
HasNumber r t None = Unit {0}
HasNumber r t (Some n) = (n < length r.types.items) × (number_tree r n ≡ t)

-- the numbers below this one, in their order
abbrev pub numbers_below : ℕ → List ℕ
numbers_below zero = []
numbers_below (suc n) = numbers_below n ++ n ∷ []

-- The types of the `Resolve` are numbered in the order in which these are declared: their numbers, each where its type is declared first, count up, and
-- there are no others. A type has one number, or none, wherever it is declared in one scope, and if it is over names of interfaces with a path, in any scope.
-- Types that are declared in one scope are over one named type for each spelling.
pub record NumbersFollow (declared : List (DeclaringScope × Tree)) (r : Resolve) : Type 0 where
  pub numbers : List (Option ℕ)
  pub are : AllZip (λ (d : DeclaringScope × Tree). HasNumber r d.1) declared numbers
  pub order : once (flat_map option_to_list numbers) ≡ numbers_below (length r.types.items)
  pub same : (i j : ℕ) (c d : DeclaringScope) (t : Tree) (a b : Option ℕ) → (c ≡ d) ⊎ (is_pathed t ≡ true) → slice_get declared i ≡ Some (c, t)
      → slice_get declared j ≡ Some (d, t) → slice_get numbers i ≡ Some a → slice_get numbers j ≡ Some b → a ≡ b
  pub names : (i j : ℕ) (c : DeclaringScope) (t u : Tree) (a b m n : ℕ) → slice_get declared i ≡ Some (c, t) → slice_get declared j ≡ Some (c, u)
      → slice_get numbers i ≡ Some (Some a) → slice_get numbers j ≡ Some (Some b)
      → Contains (met_by (met_of r) a) m → Contains (met_by (met_of r) b) n → number_tree r m ≡ number_tree r n → m ≡ n
