-- Views that are added one by one.
use Rattle.std.proofs.Common.{rules as std_rules, ◌≡◌, refl, sym, ap, ◌∙◌, ℕ, ◌+◌, ◌<◌, ◌≤◌, List, [], ◌∷◌, ◌++◌, drop, length, get_or}
use Rattle.std.proofs.{Math.ListN.drop_of_length-le, lemmas.List.drop_more}
use Rattle.std.specs.List.{flat_map}
use Rattle.base_lemmas.proofs.Lists.{append_none}

pub append_line : {A : Type 0} (xs ys zs : List A) → (xs ++ ys) ++ zs ≡ xs ++ (ys ++ zs)
append_line [] ys zs = refl
append_line (x ∷ xs) ys zs = ap (λ l. x ∷ l) (append_line xs ys zs)

-- A walk that adds behind what is there what each item gives.
module _ {A B : Type 0} (f : A → List B) (xs : List A) (i : ℕ) (front : List B) {v : List B} (kept : front ++ flat_map f (drop i xs) ≡ v) where
  pub one_added : (d : A) → i < length xs → (new : List B) → new ≡ front ++ f (get_or xs i d) → new ++ flat_map f (drop (i + 1) xs) ≡ v
  one_added d more new added = search (std_rules, append_line, drop_more)

  pub all_added : length xs ≤ i → front ≡ v
  all_added past = sym (append_none front) ∙ (ap (λ l. front ++ flat_map f l) (sym (drop_of_length-le xs past)) ∙ kept)
