-- Items that are made one after the other.
use Rattle.std.proofs.Common.{◌≡◌, sym, ap, ◌∙◌, ℕ, ◌+◌, List, [], ◌∷◌, ◌++◌, map, take, Some, slice_get}
use Rattle.std.proofs.lemmas.List.{map-append}
use Rattle.base_lemmas.proofs.Lists.{take_found}

-- each item by its number
module _ {A X : Type 0} (f : A → X) (xs : List X) (n : ℕ) (out : List A) (kept : map f out ≡ take n xs) where
  pub made_more : (new : List A) (a : A) → slice_get xs n ≡ Some (f a) → new ≡ out ++ a ∷ [] → map f new ≡ take (n + 1) xs
  made_more new a found last = ap (map f) last ∙ (map-append f out (a ∷ []) ∙ (ap (λ ys. ys ++ f a ∷ []) kept ∙ sym (take_found xs n (f a) found)))
