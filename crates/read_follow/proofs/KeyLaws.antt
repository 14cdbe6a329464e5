-- Keys are the same exactly where their shapes are.
use Rattle.std.proofs.Common.{rules as std_rules, ◌≡◌, refl, sym, ap, ◌∙◌, ℕ, Bool, true, ◌&&◌, List, [], ◌∷◌, map, nat_eq, ◌==◌}
use mathlib.Core.Bool.{beq, true≢false}
use Rattle.std.specs.{Borrow.Bor, Cmp.Lexicographic.pointwise}
use Rattle.std.proofs.lemmas.{Bool.eqb-true, Bool.eq-eqb, Bool.and_from as both, Slice.Eq.bytes_eq-Decides}
use Rattle.wit_model.specs.Text.{Text, text_eq}
use Rattle.read_follow.specs.declared.keys.Key.{Key}
use Rattle.plan_meaning.specs.Shapes.{Shape}
use Rattle.read_follow.specs.KeyShapes.{shape_of, label_of}
use Rattle.base_lemmas.proofs.Bools.{beq_same, left_of as first_true, right_of as second_true}
use Rattle.wit_model.proofs.TextLemmas.{text_same}
use Rattle.read_follow.specs.contracts.keys.KeyPartialEq.TheImpl as key_eq

abbrev pub same_key : Key → Key → Bool
same_key = key_eq.ghosts.eq

abbrev same_label : Bor (List ℕ) × Bool → Bor (List ℕ) × Bool → Bool
same_label a b = text_eq a.0.now b.0.now && beq a.1 b.1

same_by : (a b : Key) → same_key a b ≡ ((a.sort == b.sort) && ((a.number == b.number) && (pointwise same_label a.labels.items b.labels.items && pointwise nat_eq a.parts.items b.parts.items)))
same_by a b = refl

pub beq_again : (a : Bool) → beq a a ≡ true
beq_again x = search std_rules

labels_same : (xs ys : List (Bor (List ℕ) × Bool)) → pointwise same_label xs ys ≡ true → map label_of xs ≡ map label_of ys
labels_same [] [] e = refl
labels_same [] (y ∷ ys) e = absurd (true≢false (sym e))
labels_same (x ∷ xs) [] e = absurd (true≢false (sym e))
labels_same (x ∷ xs) (y ∷ ys) e = search (std_rules, first_true, text_same, beq_same, second_true, labels_same xs ys (second_true (same_label x y) (pointwise same_label xs ys) e))

labels_again : (xs ys : List (Bor (List ℕ) × Bool)) → map label_of xs ≡ map label_of ys → pointwise same_label xs ys ≡ true
labels_again [] [] e = refl
labels_again [] (y ∷ ys) e = absurd cc
labels_again (x ∷ xs) [] e = absurd cc
labels_again (x ∷ xs) (y ∷ ys) e =
    let pair : label_of x ≡ label_of y = cc in
    both _ _ (both _ _ ((bytes_eq-Decides x.0.now y.0.now).1 (ap (λ (p : Text × Bool). p.0) pair)) (ap (beq x.1) (sym (ap (λ (p : Text × Bool). p.1) pair)) ∙ beq_again x.1)) (labels_again xs ys cc)

pub key_same : (a b : Key) → same_key a b ≡ true → shape_of a ≡ shape_of b
key_same a b e = search (std_rules, eqb-true, first_true, second_true, labels_same, text_same)

pub key_again : (a b : Key) → shape_of a ≡ shape_of b → same_key a b ≡ true
key_again a b e = both (a.sort == b.sort) _ (eq-eqb a.sort b.sort (ap (λ (s : Shape). s.sort) e))
    (both (a.number == b.number) _ (eq-eqb a.number b.number (ap (λ (s : Shape). s.number) e))
    (both _ _ (labels_again a.labels.items b.labels.items (ap (λ (s : Shape). s.labels) e)) ((bytes_eq-Decides a.parts.items b.parts.items).1 (ap (λ (s : Shape). s.parts) e))))
