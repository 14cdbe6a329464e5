-- Lemmas on names that stand once.
use Rattle.wit_model.specs.Rules as rules
use Rattle.base_lemmas.proofs.{Bools.left_of as first_true, Bools.right_of as second_true, Options.some_is}
use Rattle.comp_meaning.specs.Rules.{distinct}
use Rattle.std.proofs.Common.{rules as std_rules, Bool, List, Some, [], ap, arith, not, refl, slice_get, suc, true, zero, ℕ, ◌&&◌, ◌<◌, ◌∷◌, ◌≡◌}
use Rattle.std.proofs.lemmas.{Bool.not-true, Map.Keys.any_passes_from_place as any_at}
use Rattle.std.specs.List.{list_any}
use Rattle.wit_model.proofs.VersionLaws.{same_text}
use Rattle.wit_model.specs.Text.{Text, text_eq}

pub not_twice : (xs : List Text) → distinct xs ≡ true → (i j : ℕ) (x : Text) → i < j → slice_get xs i ≡ Some x → slice_get xs j ≡ Some x → ⊥
not_twice [] apart i j x less e f = cc
not_twice (y ∷ xs) apart i zero x less e f = omega (arith, less)
not_twice (y ∷ xs) apart zero (suc j) x less e f = search (std_rules, not-true, first_true, any_at, same_text, some_is)
not_twice (y ∷ xs) apart (suc i) (suc j) x less e f = not_twice xs (second_true (not (list_any (text_eq y) xs)) (distinct xs) apart) i j x (omega (arith, less)) e f

pub distinct_same : (ts : List Text) → rules.are_distinct ts ≡ distinct ts
distinct_same [] = refl
distinct_same (t ∷ ts) = ap (λ (b : Bool). not (Rattle.std.specs.List.list_any (text_eq t) ts) && b) (distinct_same ts)
