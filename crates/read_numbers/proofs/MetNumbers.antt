-- The places that a part is over, by the names that stand in its tree.
use Rattle.std.proofs.Common.{rules as std_rules, ◌≡◌, inl, inr, refl, sym, ap, ◌∙◌, subst, ℕ, zero, suc, ◌+◌, ◌<◌, arith, lit<, true, false, List, [], ◌∷◌, map, length, get_or, Option, Some, None, slice_get, unwrap_or}
use Rattle.std.proofs.lemmas.{Bool.false≢true, List.Elements.Contains-append_left, List.Elements.Contains-append_right}
use Rattle.std.specs.List.{Contains}
use Rattle.wit_model.specs.{Text.Text, Tree.Place, Tree.Tree, Tree.children, Types.no_tree}
use Rattle.plan_meaning.specs.NumberedViews.{HasNameIn, itself, inside}
use Rattle.plan_meaning.specs.Shapes.{Shape, named_shape, node_shape, part_tree, shape_tree, shape_trees, IsTable}
use Rattle.plan_meaning.proofs.ShapeLaws.{name_tree, node_tree, part_behind, tree_at_number}
use Rattle.read_follow.specs.{Facts.places, Facts.places_in, Functions.FunctionShape, Placed.apart, Placed.MayMeet, Placed.TreeOver, Places.has_path}
use Rattle.read_numbers.specs.{NumberedParts.tables_in, PlacedNumbers.IsMetFrom, PlacedNumbers.MetPartsAreSeen}

-- ---- names of parts stand in their trees

first_place : (x : Place) → Contains (x ∷ []) x
first_place x = (0, lit< tt, refl)

module _ (place : ℕ → Place) (ss : List Shape) (table : IsTable ss) where
  abbrev T : List Tree
  T = shape_trees place ss

  tree_there : (n : ℕ) (s : Shape) → slice_get ss n ≡ Some s → part_tree T (14 + n) ≡ shape_tree place T s
  tree_there n s at = part_behind T n ∙ ap (λ o. unwrap_or o no_tree) (tree_at_number place ss table n s at)

  among_parts : (x : Place) (ks : List ℕ) (m : ℕ) → Contains ks m → Contains (places (part_tree T m)) x → Contains (places_in (children (map (part_tree T) ks))) x
  among_parts x ks m c h = by ks c.0 c.1 c.2
    where
      by : (ks : List ℕ) (i : ℕ) → i < length ks → get_or ks i m ≡ m → Contains (places_in (children (map (part_tree T) ks))) x
      by [] i small e = absurd (omega (arith, small))
      by (k ∷ ks) zero small e = Contains-append_left (places (part_tree T k)) (places_in (children (map (part_tree T) ks))) x (subst (λ j. Contains (places (part_tree T j)) x) (sym e) h)
      by (k ∷ ks) (suc i) small e = Contains-append_right (places (part_tree T k)) (places_in (children (map (part_tree T) ks))) x (by ks i (omega (arith, small)) e)

  pub name_stands : (k q : ℕ) → HasNameIn ss k q → Contains (places (part_tree T k)) (place q)
  name_stands k q (itself _ n _ name is at) = search (std_rules, tree_there n (named_shape q name), name_tree place T q name, first_place (place q))
  name_stands k q (inside _ n m _ form parts is at among has) =
      search (std_rules, tree_there n (node_shape form parts), node_tree place T form parts, among_parts (place q) parts m among (name_stands m q has), name_stands m q has)

-- ---- marks and paths

marked_path : (paths : List (Option Text)) (q : ℕ) → slice_get (map has_path paths) q ≡ Some true → (path : Text) × (unwrap_or (slice_get paths q) None ≡ Some path)
marked_path [] q e = absurd cc
marked_path (None ∷ paths) zero e = absurd (false≢true (let same : false ≡ true = cc in same))
marked_path (Some path ∷ paths) zero e = (path, refl)
marked_path (o ∷ paths) (suc q) e = marked_path paths q e

module _ (shapes : List Shape) (fs : List FunctionShape) (paths : List (Option Text)) (table : IsTable shapes) where
  pub met_from : (p k : ℕ) → TreeOver (MayMeet (map has_path paths) p) (part_tree (shape_trees apart shapes) k) → IsMetFrom (tables_in shapes fs paths) p k
  met_from p k over q has = elim (over (apart q) (name_stands apart shapes table k q has) q refl) [ inl own ↦ inl own | inr marked ↦ inr (marked_path paths q marked) ]

-- ---- what follows

pub met_parts_are_seen : MetPartsAreSeen
met_parts_are_seen t tables p k met = search std_rules
