-- A walk that ends at the first item that doesn't pass.
use Rattle.std.proofs.Common.{◌≡◌, sym, ap, ◌∙◌, ℕ, ◌+◌, ◌<◌, ◌≤◌, Bool, true, false, ◌&&◌, List, drop, length, get_or}
use Rattle.std.proofs.{Math.ListN.drop_of_length-le, lemmas.List.drop_more}
use Rattle.std.specs.List.{list_all}

module _ {A : Type 0} (P : A → Bool) (xs : List A) (i : ℕ) {v : Bool} (kept : list_all P (drop i xs) ≡ v) where
  module _ (d : A) (more : i < length xs) where
    here : (P (get_or xs i d) && list_all P (drop (i + 1) xs)) ≡ v
    here = sym (ap (list_all P) (drop_more xs i d more)) ∙ kept

    pub one_fails : P (get_or xs i d) ≡ false → false ≡ v
    one_fails fails = sym (ap (λ b. b && list_all P (drop (i + 1) xs)) fails) ∙ here

    pub one_passes : P (get_or xs i d) ≡ true → list_all P (drop (i + 1) xs) ≡ v
    one_passes passes = sym (ap (λ b. b && list_all P (drop (i + 1) xs)) passes) ∙ here

  pub all_pass : length xs ≤ i → true ≡ v
  all_pass past = sym (ap (list_all P) (drop_of_length-le xs past)) ∙ kept
