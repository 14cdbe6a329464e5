-- Lists of which each element stands in a relation with each later one.
use Rattle.std.proofs.Common.{sym, subst, ℕ, zero, suc, ◌<◌, List, [], ◌∷◌, ◌++◌, map, length, get_or, arith}
use Rattle.std.proofs.lemmas.{List.get_or-map, List.length-map, List.Elements.Contains-append_right}
use Rattle.std.specs.{Prelude.AllPairs, List.Contains}
use Rattle.encode_types.proofs.Lists.{none-in}

pub pairs-tail : {X : Type 0} (R : X → X → Type 0) (x : X) (xs : List X) → AllPairs R (x ∷ xs) → AllPairs R xs
pairs-tail R x xs h = λ i j d lt within. h (suc i) (suc j) d (omega arith) (omega arith)

pub pairs-head : {X : Type 0} (R : X → X → Type 0) (x : X) (xs : List X) (y : X) → AllPairs R (x ∷ xs) → Contains xs y → R x y
pairs-head R x xs y h (k, l, e) = subst (λ z. R x z) e (h 0 (suc k) y (omega arith) (omega (arith, l)))

pub pairs-right : {X : Type 0} (R : X → X → Type 0) (xs ys : List X) → AllPairs R (xs ++ ys) → AllPairs R ys
pairs-right R [] ys h = h
pairs-right R (x ∷ xs) ys h = pairs-right R xs ys (pairs-tail R x (xs ++ ys) h)

pub pairs-across : {X : Type 0} (R : X → X → Type 0) (xs ys : List X) (x y : X) → AllPairs R (xs ++ ys) → Contains xs x → Contains ys y → R x y
pairs-across R [] ys x y h c d = none-in x c
pairs-across R (z ∷ xs) ys x y h (zero, l, e) d = subst (λ w. R w y) e (pairs-head R z (xs ++ ys) y h (Contains-append_right xs ys y d))
pairs-across R (z ∷ xs) ys x y h (suc k, l, e) d = pairs-across R xs ys x y (pairs-tail R z (xs ++ ys) h) (k, omega (arith, l), e) d

pub pairs-map : {X Y : Type 0} (f : X → Y) (R : Y → Y → Type 0) (xs : List X) → AllPairs (λ x y. R (f x) (f y)) xs → AllPairs R (map f xs)
pairs-map f R [] h i j d l n = absurd (omega (arith, n))
pairs-map f R (x ∷ xs) h i j d l n =
    let m : j < length (x ∷ xs) = subst (λ (k : ℕ). j < k) (length-map (x ∷ xs) f) n in
    let k : i < length (x ∷ xs) = omega arith in
    subst (λ y. R y (get_or (map f (x ∷ xs)) j d)) (sym (get_or-map f (x ∷ xs) i x d k)) (subst (λ y. R (f (get_or (x ∷ xs) i x)) y) (sym (get_or-map f (x ∷ xs) j x d m)) (h i j x l m))
