-- Two lists, place by place, and elements of lists that are made from others.
use Rattle.std.proofs.Common.{◌≡◌, refl, subst, zero, suc, List, [], ◌∷◌, Option, Some, arith}
use Rattle.std.specs.{Prelude.filter_map, List.AllZip, List.Contains}
use Rattle.wit_model.proofs.Elements.{none-in}
use Rattle.base_lemmas.proofs.Elements.{contains-later, filter_map_from, get-contains}

pub zip-left : {A B : Type 0} (R : A → B → Type 0) (xs : List A) (ys : List B) (y : B) → AllZip R xs ys → Contains ys y → (x : A) × Contains xs x × R x y
zip-left R [] [] y z c = none-in y c
zip-left R (a ∷ xs) (b ∷ ys) y z (zero, l, e) = (a, (0, omega arith, refl), subst (λ w. R a w) e z.0)
zip-left R (a ∷ xs) (b ∷ ys) y z (suc k, l, e) = let rest = zip-left R xs ys y z.1 (k, omega (arith, l), e) in (rest.0, contains-later a xs rest.0 rest.1, rest.2)
zip-left R _ _ y z c = absurd z

-- and back
zip-back : {A B : Type 0} (R : A → B → Type 0) (xs : List A) (ys : List B) → AllZip R xs ys → AllZip (λ b a. R a b) ys xs
zip-back R [] [] z = tt
zip-back R (a ∷ xs) (b ∷ ys) z = (z.0, zip-back R xs ys z.1)
zip-back R _ _ z = absurd z

pub zip-right : {A B : Type 0} (R : A → B → Type 0) (xs : List A) (ys : List B) (x : A) → AllZip R xs ys → Contains xs x → (y : B) × Contains ys y × R x y
zip-right R xs ys x z c = zip-left (λ b a. R a b) ys xs x (zip-back R xs ys z) c

-- what is given is given by an element
pub given-contains : {A B : Type 0} (h : A → Option B) (xs : List A) (y : B) → Contains (filter_map h xs) y → (x : A) × Contains xs x × (h x ≡ Some y)
given-contains h xs y c = let from = filter_map_from h xs y c in (from.1, get-contains xs from.0 from.1 from.2, from.3)

-- a list of what belongs to each element of another
pub zip-all : {A B : Type 0} (R : A → B → Type 0) (ys : List B) → ((y : B) → Contains ys y → (x : A) × R x y) → (xs : List A) × AllZip R xs ys
zip-all R [] h = ([], tt)
zip-all R (y ∷ ys) h =
    let first = h y (0, omega arith, refl) in
    let rest = zip-all R ys (λ z c. h z (contains-later y ys z c)) in
    (first.0 ∷ rest.0, (first.1, rest.1))
