-- A table with one type more.
use Rattle.std.proofs.Common.{rules as std_rules, ◌≡◌, inl, inr, refl, sym, ap, ◌∙◌, subst, ℕ, ◌+◌, ◌<◌, arith, List, [], ◌∷◌, ◌++◌, length, Some, slice_get, unwrap_or, length-append}
use Rattle.wit_model.specs.{Tree.Place, Tree.Tree, Types.grow, Types.no_tree}
use Rattle.wit_model.proofs.Tables.{grow_keeps}
use Rattle.plan_meaning.specs.Shapes.{Shape, part_tree, shape_tree, shape_trees, IsShape, IsTable}
use Rattle.read_follow.specs.declared.facts.Fact.{Fact}
use Rattle.read_follow.specs.Facts.{IsKept, Tells}
use Rattle.read_follow.proofs.FactLaws.{tells_along}
use Rattle.plan_meaning.proofs.ShapeLaws.{part_behind, part_front, split_part}
use Rattle.base_lemmas.proofs.Lists.{last_or, slice_front}

-- where a number of the longer list stands

table_more : (ss : List Shape) (s : Shape) → IsTable ss → IsShape (length ss) s → ((n : ℕ) → slice_get ss n ≡ Some s → ⊥) → IsTable (ss ++ s ∷ [])
table_more ss s table shape fresh = record {
  each = λ n x e. elim (last_or ss s n x e) [ inl h ↦ table.each n x h.1 | inr h ↦ subst (λ m. IsShape m x) (sym h.0) (subst (IsShape (length ss)) h.1 shape) ];
  apart = λ n m x en em. elim (last_or ss s n x en) [
    | inl h ↦ elim (last_or ss s m x em) [ inl k ↦ table.apart n m x h.1 k.1 | inr k ↦ absurd (fresh n (h.1 ∙ ap Some (sym k.1))) ]
    | inr h ↦ elim (last_or ss s m x em) [ inl k ↦ absurd (fresh m (k.1 ∙ ap Some (sym h.1))) | inr k ↦ h.0 ∙ sym k.0 ]
  ];
}

-- ---- its trees

-- one entry more
grow_more : {A X : Type 0} (step : List X → A → X) (done : List X) (xs : List A) (x : A) → grow step done (xs ++ x ∷ []) ≡ grow step done xs ++ step (grow step done xs) x ∷ []
grow_more step done [] x = refl
grow_more step done (y ∷ ys) x = grow_more step (done ++ step done y ∷ []) ys x

pub trees_more : (place : ℕ → Place) (ss : List Shape) (s : Shape) → shape_trees place (ss ++ s ∷ []) ≡ shape_trees place ss ++ shape_tree place (shape_trees place ss) s ∷ []
unfolding shape_trees
trees_more place ss s = grow_more (shape_tree place) [] ss s

pub trees_length : (place : ℕ → Place) (ss : List Shape) → length (shape_trees place ss) ≡ length ss
unfolding shape_trees
trees_length place ss = let kept = grow_keeps (shape_tree place) [] ss in ap length kept.1 ∙ kept.2

pub part_kept : (T U : List Tree) (k : ℕ) → k < 14 + length T → part_tree (T ++ U) k ≡ part_tree T k
part_kept T U k h = elim (split_part k) [
  | inl small ↦ part_front (T ++ U) k small ∙ sym (part_front T k small)
  | inr m ↦
      ap (part_tree (T ++ U)) m.1 ∙ (part_behind (T ++ U) m.0 ∙ (ap (λ o. unwrap_or o no_tree) (slice_front T U m.0 (omega (arith, h, m.1))) ∙ (sym (part_behind T m.0) ∙ ap (part_tree T) (sym m.1))))
]

at_last : (T : List Tree) (t : Tree) → unwrap_or (slice_get (T ++ t ∷ []) (length T)) no_tree ≡ t
at_last [] t = refl
at_last (x ∷ T) t = at_last T t

-- the tree of the last number
pub part_last : (place : ℕ → Place) (ss : List Shape) (s : Shape) → part_tree (shape_trees place (ss ++ s ∷ [])) (14 + length ss) ≡ shape_tree place (shape_trees place ss) s
part_last place ss s = search (std_rules, trees_more, part_behind, unwrap_or, trees_length, at_last)

-- the trees of the other numbers
pub parts_stay : (place : ℕ → Place) (ss : List Shape) (s : Shape) (k : ℕ) → k < 14 + length ss → part_tree (shape_trees place (ss ++ s ∷ [])) k ≡ part_tree (shape_trees place ss) k
parts_stay place ss s k h = search (std_rules, trees_length, trees_more, part_kept)

-- ---- its facts

pub kept_more : (ss : List Shape) (fs : List Fact) (s : Shape) (f : Fact) → IsKept ss fs → IsShape (length ss) s → ((n : ℕ) → slice_get ss n ≡ Some s → ⊥)
    → Tells f (λ place. shape_tree place (shape_trees place ss) s) → IsKept (ss ++ s ∷ []) (fs ++ f ∷ [])
kept_more ss fs s f kept shape fresh one = record {
  table = table_more ss s kept.table shape fresh;
  many = length-append fs (f ∷ []) ∙ (ap (λ n. n + 1) kept.many ∙ sym (length-append ss (s ∷ [])));
  hold = λ n g e. elim (last_or fs f n g e) [
    | inl h ↦ tells_along g (λ place. part_tree (shape_trees place ss) (14 + n)) (λ place. part_tree (shape_trees place (ss ++ s ∷ [])) (14 + n))
        (λ place. sym (parts_stay place ss s (14 + n) (omega (arith, h.0, kept.many)))) (kept.hold n g h.1)
    | inr h ↦ subst (λ (x : Fact). Tells x (λ place. part_tree (shape_trees place (ss ++ s ∷ [])) (14 + n))) h.1
        (tells_along f (λ place. shape_tree place (shape_trees place ss) s) (λ place. part_tree (shape_trees place (ss ++ s ∷ [])) (14 + n))
        (λ place. sym (ap (λ m. part_tree (shape_trees place (ss ++ s ∷ [])) (14 + m)) (h.0 ∙ kept.many) ∙ part_last place ss s)) one)
  ];
}

pub no_types : IsKept [] []
no_types = search std_rules
