-- What is read of one name more.
use Rattle.std.proofs.Common.{◌≡◌, ◌∙◌, ◌<◌, ◌+◌, ◌∷◌, ◌++◌, [], ap, sym, subst, ℕ, List, map, take, length}
use Rattle.std.proofs.Math.ListN.{get_or}
use Rattle.std.proofs.lemmas.List.{take_more, map-append}
use Rattle.std.specs.List.{AllZip}
use Rattle.base_lemmas.proofs.Elements.{zip-append}

module _ {A B X : Type 0} (g : A → X) (R : X → B → Type 0) (xs : List A) (d : A) where
  pub one-more : (at : ℕ) (ys zs : List B) (y : B) → at < length xs → AllZip R (map g (take at xs)) ys → R (g (get_or xs at d)) y → zs ≡ ys ++ y ∷ []
      → AllZip R (map g (take (at + 1) xs)) zs
  one-more at ys zs y below h new grown =
      let step : map g (take (at + 1) xs) ≡ map g (take at xs) ++ g (get_or xs at d) ∷ [] =
      ap (map g) (take_more xs at d below) ∙ map-append g (take at xs) (get_or xs at d ∷ []) in
      subst (λ (ns : List X). AllZip R ns zs) (sym step) (subst (λ (found : List B). AllZip R (map g (take at xs) ++ g (get_or xs at d) ∷ []) found) (sym grown)
      (zip-append R (map g (take at xs)) ys (g (get_or xs at d) ∷ []) (y ∷ []) h (new, tt)))
