-- The types of a plan as those of the shapes of a table that are kept, in the table's order: only they get a number.
use Rattle.std.specs.Prelude.{◌≡◌, ◌<◌, ◌+◌, ℕ, true, nat_lt, List, length, Some, None, slice_get}
use Rattle.std.specs.List.{AllZip, list_all}
use Rattle.wit_model.specs.{Text.Text, Tree.Place, Tree.Form, Rules.each_from}
use Rattle.plan_meaning.specs.Shapes.{Shape, node_shape, named_shape, shape_trees, part_tree, IsTable}
use Rattle.plan_meaning.specs.Plan.{Plan, PlannedType, formed, kind_numbers, place_in, trees_in}

-- The new number of a part: a primitive keeps its own, and a shape gets its place among those that are kept.
pub data IsPart (kept : List ℕ) (old new : ℕ) : Type 0 where
  a_primitive : old < 14 → new ≡ old → IsPart kept old new
  a_shape : (n j : ℕ) → old ≡ 14 + n → slice_get kept j ≡ Some n → new ≡ 14 + j → IsPart kept old new

-- The type of a shape that is kept: a form, unnamed, over the new numbers of its parts, or what declares the name in its place.
pub data IsTypeOf (place : ℕ → Place) (kept : List ℕ) (p : Plan) (s : Shape) (t : PlannedType) : Type 0 where
  of_form : (form : Form) (old new : List ℕ) → s ≡ node_shape form old → AllZip (IsPart kept) old new → t.name ≡ None → t.kind ≡ formed form new
      → IsTypeOf place kept p s t
  of_name : (q : ℕ) (name : Text) → s ≡ named_shape q name → t.name ≡ Some name → place_in p t.owner ≡ place q → IsTypeOf place kept p s t

-- Each type of the plan is that of the shape that is kept in its place.
pub record AreKept (place : ℕ → Place) (shapes : List Shape) (kept : List ℕ) (p : Plan) : Type 0 where
  pub types : (j : ℕ) (t : PlannedType) → slice_get p.types j ≡ Some t → (n : ℕ) × (s : Shape) × (slice_get kept j ≡ Some n) × (slice_get shapes n ≡ Some s)
      × IsTypeOf place kept p s t

-- Then a part of the plan stands for the tree of the part of the table. (The parts of a plan's type stand before it.)
abbrev pub TreesAreKept : Type 0
TreesAreKept = (place : ℕ → Place) (shapes : List Shape) (kept : List ℕ) (p : Plan) → IsTable shapes → AreKept place shapes kept p
    → each_from (λ j t. list_all (λ k. nat_lt k j) (kind_numbers t.kind)) 0 p.types ≡ true
    → (old new : ℕ) → IsPart kept old new → new < 14 + length p.types → part_tree (trees_in p) new ≡ part_tree (shape_trees place shapes) old
