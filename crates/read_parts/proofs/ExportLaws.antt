-- Items that are made one after the other, each from one of a list.
use Rattle.std.proofs.Common.{rules as std_rules, ◌≡◌, sym, ◌∙◌, ℕ, ◌+◌, ◌<◌, List, [], ◌∷◌, ◌++◌, map, drop, length, get_or, append_assoc, Option, Some, None}
use Rattle.std.proofs.lemmas.List.{drop_more}
use Rattle.comp_bytes.specs.Reading.{◌>>=◌}
use Rattle.comp_meaning.specs.Follow.{each}
use Rattle.read_parts.specs.Members.{with_front}

further : {A : Type 0} (front : List A) (y : A) (found : Option (List A)) → with_front front (found >>= λ ys. Some (y ∷ ys)) ≡ with_front (front ++ y ∷ []) found
further front y x = search (std_rules, append_assoc)

module _ {A B X : Type 0} (f : A → Option B) (raw : X → A) (xs : List X) (i : ℕ) (front : List B) (whole : Option (List B)) (kept : with_front front (each f (map raw (drop i xs))) ≡ whole) where
  one_on : (d : X) → i < length xs → (o : Option B) → f (raw (get_or xs i d)) ≡ o → with_front front (o >>= λ y. each f (map raw (drop (i + 1) xs)) >>= λ ys. Some (y ∷ ys)) ≡ whole
  one_on d more o e = search (std_rules, drop_more)

  pub each_more : (d : X) → i < length xs → (y : B) → f (raw (get_or xs i d)) ≡ Some y → with_front (front ++ y ∷ []) (each f (map raw (drop (i + 1) xs))) ≡ whole
  each_more d more y e = sym (further front y (each f (map raw (drop (i + 1) xs)))) ∙ one_on d more (Some y) e

  pub each_none : (d : X) → i < length xs → f (raw (get_or xs i d)) ≡ None → whole ≡ None
  each_none d more e = sym (one_on d more None e)
