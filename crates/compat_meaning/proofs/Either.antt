-- What follows from an element of a list made of two: by which of them it stands in.
use Rattle.std.proofs.Common.{rules as std_rules, ◌≡◌, List, [], ◌∷◌, ◌++◌, flat_map}
use Rattle.std.proofs.lemmas.List.Elements.{Contains-append_cases}
use Rattle.std.specs.List.{Contains}
use Rattle.base_lemmas.proofs.Elements.{contains-later, first-contained, last_of, none_in}

module _ {X P : Type 0} where
  pub of_two : (xs ys : List X) (x : X) → (Contains xs x → P) → (Contains ys x → P) → Contains (xs ++ ys) x → P
  of_two xs ys x f g c = search (std_rules, Contains-append_cases xs ys x c)

  pub of_first : (x : X) (xs : List X) (y : X) → (x ≡ y → P) → (Contains xs y → P) → Contains (x ∷ xs) y → P
  of_first x xs y f g c = of_two (x ∷ []) xs y (λ d. f (last_of x y d)) g c

-- an element of a list made of lists stands in one of them
pub flat_from : {X Y : Type 0} (f : X → List Y) (xs : List X) (y : Y) → Contains (flat_map f xs) y → (x : X) × Contains xs x × Contains (f x) y
flat_from f [] y c = absurd (none_in y c)
flat_from f (x ∷ xs) y c = of_two (f x) (flat_map f xs) y (λ d. (x, first-contained x xs, d)) (λ d. let w = flat_from f xs y d in
    (w.0, contains-later x xs w.0 w.1, w.2)) c
