-- The types of a plan stand for the trees of the shapes that they are made of.
use Rattle.std.proofs.Common.{rules as std_rules, ◌≡◌, refl, sym, ap, ◌∙◌, ℕ, zero, suc, ◌+◌, ◌<◌, Bool, true, nat_lt, List, [], ◌∷◌, length, map, take, filter_map, Option, Some, slice_get, unwrap_or, arith}
use Rattle.std.proofs.lemmas.{Bool.ltb-true as less_than, Option.same_Some as same-some}
use Rattle.std.specs.{List.AllZip, List.list_all, List.cons_option}
use Rattle.wit_model.specs.{Tree.Place, Tree.Tree, Types.no_tree, Rules.each_from}
use Rattle.wit_model.proofs.{Tables.grow_at, RulesLemmas.each_at}
use Rattle.plan_meaning.specs.Shapes.{Shape, part_tree, shape_trees, IsTable}
use Rattle.plan_meaning.specs.Plan.{Plan, PlannedType, part_number, kind_numbers, tree_of_planned, trees_in}
use Rattle.plan_meaning.specs.Renumbering.{IsPart, AreKept, TreesAreKept}
use Rattle.plan_meaning.proofs.{ShapeLaws.node_tree, ShapeLaws.name_tree, ShapeLaws.part_behind, ShapeLaws.part_front, ShapeLaws.tree_at_number, Words.behind}
use Rattle.base_lemmas.proofs.{Bools.left_of as first_true, Lists.slice_take, Lists.within_there as slice_there}

-- what comes first, and what follows
head_passes : (p : ℕ → Bool) (n : ℕ) (o : Option ℕ) (ns : List ℕ) → o ≡ Some n → list_all p (cons_option o ns) ≡ true → p n ≡ true
head_passes p n o ns e h = first_true (p n) (list_all p ns) (ap (λ x. list_all p (cons_option x ns)) (sym e) ∙ h)

rest_passes : (p : ℕ → Bool) (o : Option ℕ) (ns : List ℕ) → list_all p (cons_option o ns) ≡ true → list_all p ns ≡ true
rest_passes p x ns h = search std_rules

-- the tree of a number of a table
abbrev tree_of_number : List Tree → ℕ → Tree
tree_of_number trees n = unwrap_or (slice_get trees n) no_tree

module _ (place : ℕ → Place) (shapes : List Shape) (kept : List ℕ) (p : Plan) (table : IsTable shapes) (are : AreKept place shapes kept p)
    (falls : each_from (λ j t. list_all (λ k. nat_lt k j) (kind_numbers t.kind)) 0 p.types ≡ true) where
  abbrev old_trees : List Tree
  old_trees = shape_trees place shapes

  -- each smaller number stands for the tree of what it is made of
  abbrev Smaller : ℕ → Type 0
  Smaller j = (i n : ℕ) → i < j → slice_get kept i ≡ Some n → tree_of_number (trees_in p) i ≡ tree_of_number old_trees n

  part_kept : (j : ℕ) → Smaller j → (old new : ℕ) → IsPart kept old new → (ns : List ℕ) → list_all (λ k. nat_lt k j) (cons_option (part_number new) ns) ≡ true
      → part_tree (take j (trees_in p)) new ≡ part_tree old_trees old
  part_kept j small old new x ns h = search (std_rules, part_front, unwrap_or, less_than, head_passes, behind, part_behind, slice_take)

  parts_kept : (j : ℕ) → Smaller j → (old new : List ℕ) → AllZip (IsPart kept) old new → list_all (λ k. nat_lt k j) (filter_map part_number new) ≡ true
      → map (part_tree (take j (trees_in p))) new ≡ map (part_tree old_trees) old
  parts_kept j small [] [] zip h = refl
  parts_kept j small (o ∷ old) (w ∷ new) zip h =
      search (std_rules, rest_passes, part_kept, parts_kept j small old new zip.1 (rest_passes (λ k. nat_lt k j) (part_number w) (filter_map part_number new) h))
  parts_kept j small _ _ zip h = absurd zip

  planned_tree : (j : ℕ) (t : PlannedType) → slice_get p.types j ≡ Some t → slice_get (trees_in p) j ≡ Some (tree_of_planned p (take j (trees_in p)) t)
  unfolding trees_in
  planned_tree j t e = grow_at (tree_of_planned p) p.types j t e

  number_kept : (j n : ℕ) → Smaller j → j < length p.types → slice_get kept j ≡ Some n → tree_of_number (trees_in p) j ≡ tree_of_number old_trees n
  number_kept j n small low stands =
      let found = slice_there p.types j low in
      let from = are.types j found.0 found.1 in
      let numbers = each_at (λ i t. list_all (λ k. nat_lt k i) (kind_numbers t.kind)) p.types j found.0 falls found.1 in
      ap (λ o. unwrap_or o no_tree) (planned_tree j found.0 found.1) ∙ ((search (std_rules, name_tree, parts_kept, node_tree))
      ∙ (sym (ap (λ o. unwrap_or o no_tree) (tree_at_number place shapes table from.0 from.1 from.3)) ∙ ap (tree_of_number old_trees) (same-some from.0 n (sym from.2 ∙ stands))))

  numbers_kept : (fuel j n : ℕ) → j < fuel → j < length p.types → slice_get kept j ≡ Some n → tree_of_number (trees_in p) j ≡ tree_of_number old_trees n
  numbers_kept zero j n h low stands = absurd (omega (arith, h))
  numbers_kept (suc fuel) j n h low stands = number_kept j n (λ i k less there. numbers_kept fuel i k (omega (arith, less, h)) (omega (arith, less, low)) there) low stands

  kept_tree : (old new : ℕ) → IsPart kept old new → new < 14 + length p.types → part_tree (trees_in p) new ≡ part_tree old_trees old
  kept_tree old new x h = search (std_rules, part_front, unwrap_or, part_behind, numbers_kept)

pub trees_are_kept : TreesAreKept
trees_are_kept place shapes kept p table are falls old new part h = kept_tree place shapes kept p table are falls old new part h
