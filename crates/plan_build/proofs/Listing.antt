-- Lists that are built of others, entry by entry.
use Rattle.std.proofs.Common.{◌≡◌, refl, sym, ap, ◌∙◌, ℕ, ◌+◌, ◌<◌, Bool, true, ◌&&◌, List, [], ◌∷◌, ◌++◌, map, take, length, get_or, option_map, Some}
use Rattle.std.proofs.lemmas.{List.take_more, List.map-append, List.Folds.list_all-append, Option.slice_get-get_or, Option.slice_get-map as get_of_map}
use Rattle.std.proofs.lemmas.Bool.{and_from as both}
use Rattle.std.specs.List.{list_all}
use Rattle.base_lemmas.proofs.Elements.{all_get}

-- an entry more that passes
pub all_more : {B : Type 0} (test : B → Bool) (out new : List B) (y : B) → list_all test out ≡ true → test y ≡ true → new ≡ out ++ y ∷ [] → list_all test new ≡ true
all_more test out new y before here added = ap (list_all test) added ∙ (list_all-append test out (y ∷ []) ∙ both (list_all test out) (test y && true) before (both (test y) true here refl))

module _ {A C : Type 0} (g : A → C) (xs : List A) (i : ℕ) (x : A) (within : i < length xs) (is : x ≡ get_or xs i x) where
  pub taken : take (i + 1) xs ≡ take i xs ++ x ∷ []
  taken = take_more xs i x within ∙ ap (λ z. take i xs ++ z ∷ []) (sym is)

  pub taken_made : map g (take (i + 1) xs) ≡ map g (take i xs) ++ g x ∷ []
  taken_made = ap (map g) taken ∙ map-append g (take i xs) (x ∷ [])

  -- what all pass, this one passes
  pub passes_here : (test : C → Bool) → list_all test (map g xs) ≡ true → test (g x) ≡ true
  passes_here test all = all_get test (map g xs) i (g x) all (get_of_map g xs i ∙ ap (option_map g) (slice_get-get_or xs i x within ∙ ap Some (sym is)))

  module _ {B : Type 0} (f : B → C) (out new : List B) (y : B) (added : new ≡ out ++ y ∷ []) where
    -- one entry more of both lists
    pub one_more : map f out ≡ map g (take i xs) → f y ≡ g x → map f new ≡ map g (take (i + 1) xs)
    one_more before here = ap (map f) added ∙ (map-append f out (y ∷ []) ∙ (ap (λ zs. zs ++ f y ∷ []) before ∙ (ap (λ z. map g (take i xs) ++ z ∷ []) here ∙ sym taken_made)))

    -- the same where all pass a test
    pub one_more_if : (test : C → Bool) → (list_all test (map g xs) ≡ true → map f out ≡ map g (take i xs)) → (test (g x) ≡ true → f y ≡ g x) → list_all test (map g xs) ≡ true
        → map f new ≡ map g (take (i + 1) xs)
    one_more_if test before here all = one_more (before all) (here (passes_here test all))

    pub all_more_if : (test : C → Bool) (bare : B → Bool) → (list_all test (map g xs) ≡ true → list_all bare out ≡ true) → (test (g x) ≡ true → bare y ≡ true) → list_all test (map g xs) ≡ true
        → list_all bare new ≡ true
    all_more_if test bare before here all = all_more bare out new y (before all) (here (passes_here test all)) added
