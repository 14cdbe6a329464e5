-- The names in a part, by the numbers of their places.
use Rattle.std.proofs.Common.{rules as std_rules, ◌≡◌, inl, inr, refl, ap, ◌∙◌, subst, ℕ, zero, suc, ◌+◌, ◌<◌, ◌≤◌, arith, lit<, List, [], ◌∷◌, map, length, Some, slice_get, unwrap_or}
use Rattle.std.proofs.lemmas.List.Elements.{Contains-append_left, Contains-append_right, Contains-append_cases}
use Rattle.std.specs.List.{AllByRecursion, Contains}
use Rattle.wit_model.specs.{Tree.Place, Tree.Tree, Tree.children, Types.no_tree}
use Rattle.plan_meaning.specs.NumberedViews.{HasNameIn, itself, inside}
use Rattle.plan_meaning.specs.Shapes.{Shape, part_tree, shape_tree, shape_trees, IsShape, a_name, a_node, IsTable}
use Rattle.plan_meaning.proofs.ShapeLaws.{name_tree, node_tree, part_behind, part_front, split_part, tree_at_number}
use Rattle.read_follow.specs.Facts.{places, places_in}
use Rattle.base_lemmas.proofs.{Elements.last_of as only_one, Elements.none_in as nothing_in, Lists.mapped_get, Lists.within_there as slice_there}

-- in the part stands a name whose place is this
pub record IsNamed (ss : List Shape) (place : ℕ → Place) (k : ℕ) (x : Place) : Type 0 where
  pub number : ℕ
  pub has : HasNameIn ss k number
  pub is : place number ≡ x

first_in : (k : ℕ) (ks : List ℕ) → Contains (k ∷ ks) k
first_in k ks = Contains-append_left (k ∷ []) ks k (0, lit< tt, refl)

module _ (place : ℕ → Place) (ss : List Shape) (table : IsTable ss) where
  abbrev T : List Tree
  T = shape_trees place ss

  pub record IsNamedPart (ks : List ℕ) (x : Place) : Type 0 where
    pub part : ℕ
    pub among : Contains ks part
    pub named : IsNamed ss place part x

  module _ (n : ℕ) (x : Place) (rec : (j : ℕ) → j < 14 + n → Contains (places (part_tree T j)) x → IsNamed ss place j x) where
    in_parts : (ks : List ℕ) → AllByRecursion (λ j. j < 14 + n) ks → Contains (places_in (children (map (part_tree T) ks))) x → IsNamedPart ks x
    in_parts [] below c = absurd (nothing_in x c)
    in_parts (k ∷ ks) below c = elim (Contains-append_cases (places (part_tree T k)) (places_in (children (map (part_tree T) ks))) x c) [
      | inl h ↦ record { part = k; among = first_in k ks; named = rec k below.0 h }
      | inr h ↦ let r = in_parts ks below.1 h in record { part = r.part; among = Contains-append_right (k ∷ []) ks r.part r.among; named = r.named }
    ]

    by_shape : (k : ℕ) (s : Shape) → k ≡ 14 + n → slice_get ss n ≡ Some s → IsShape n s → Contains (places (shape_tree place T s)) x → IsNamed ss place k x
    by_shape k s is at (a_name p name same) c =
        let one = subst (λ (t : Tree). Contains (places t) x) (ap (shape_tree place T) same ∙ name_tree place T p name) c in
        record { number = p; has = itself k n p name is (at ∙ ap Some same); is = only_one (place p) x one }
    by_shape k s is at (a_node form ks same below) c =
        let whole = subst (λ (t : Tree). Contains (places t) x) (ap (shape_tree place T) same ∙ node_tree place T form ks) c in
        let r = in_parts ks below whole in
        record { number = r.named.number; has = inside k n r.part r.named.number form ks is (at ∙ ap Some same) r.among r.named.has; is = r.named.is }

  not_in_front : (k : ℕ) → k < 14 → (x : Place) → Contains (places (part_tree T k)) x → ⊥
  not_in_front k low x c = search (std_rules, slice_there, nothing_in, part_front, unwrap_or, mapped_get)

  pub named_inside : (m : ℕ) → m ≤ length ss → (k : ℕ) → k < 14 + m → (x : Place) → Contains (places (part_tree T k)) x → IsNamed ss place k x
  named_inside zero le k small x c = absurd (not_in_front k (omega (arith, small)) x c)
  named_inside (suc m) le k small x c = behind (named_inside m (omega (arith, le)))
    where
      behind : ((j : ℕ) → j < 14 + m → (y : Place) → Contains (places (part_tree T j)) y → IsNamed ss place j y) → IsNamed ss place k x
      behind rec = elim (split_part k) [
        | inl low ↦ absurd (not_in_front k low x c)
        | inr n ↦
            let below : n.0 < length ss = omega (arith, small, n.1, le) in
            let found = slice_there ss n.0 below in
            let stands : part_tree T k ≡ shape_tree place T found.0 = ap (part_tree T) n.1 ∙ (part_behind T n.0 ∙ ap (λ o. unwrap_or o no_tree) (tree_at_number place ss table n.0 found.0 found.1)) in
            by_shape n.0 x (λ j smaller d. rec j (omega (arith, smaller, small, n.1)) x d) k found.0 n.1 found.1 (table.each n.0 found.0 found.1) (subst (λ (t : Tree). Contains (places t) x) stands c)
      ]

-- a place of its own for each number
abbrev pub apart : ℕ → Place
apart n = Place.of_interface (n ∷ [])

pub number_inside : (ss : List Shape) → IsTable ss → (k q : ℕ) → k < 14 + length ss → Contains (places (part_tree (shape_trees apart ss) k)) (apart q) → HasNameIn ss k q
number_inside ss table k q range c = search (std_rules, named_inside apart ss table (length ss) (omega arith) k range (apart q) c)
