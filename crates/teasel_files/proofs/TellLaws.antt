-- What is told of a list, from a place on.
use Rattle.std.proofs.Common.{◌<◌, ◌≤◌, ◌+◌, ◌&&◌, sym, subst, ℕ, Bool, List, drop, length}
use Rattle.std.proofs.Math.ListN.{get_or, drop_of_length-le}
use Rattle.std.proofs.lemmas.List.{drop_more}
use Rattle.teasel_files.specs.AllTell.{AllTell, none_left, one_more}

module _ {A : Type 0} (Tells : A → Bool → Type 0) (xs : List A) where
  -- one is told of more
  pub tell-step : (at : ℕ) (d : A) → at < length xs → (told before all : Bool) → Tells (get_or xs at d) told → AllTell Tells (drop (at + 1) xs) (before && told) all
      → AllTell Tells (drop at xs) before all
  tell-step at d below told before all tells rest = subst (λ (ys : List A). AllTell Tells ys before all) (sym (drop_more xs at d below)) (one_more tells rest)

  -- nothing is left to tell at the end
  pub tell-end : (at : ℕ) → length xs ≤ at → (before : Bool) → AllTell Tells (drop at xs) before before
  tell-end at over before = subst (λ (ys : List A). AllTell Tells ys before before) (sym (drop_of_length-le xs over)) none_left
