-- Lists, element by element.
use Rattle.std.proofs.Common.{rules as std_rules, ◌≡◌, refl, sym, ap, ◌∙◌, subst, ℕ, zero, suc, ◌+◌, ◌<◌, List, [], ◌∷◌, ◌++◌, map, filter_map, option_to_list, length, get_or, take, arith, Option, Some, None, Bool, true, false, ◌||◌, ◌==◌, flat_map, slice_get}
use Rattle.std.proofs.lemmas.{Option.slice_get-get_or, List.Elements.filter_map-append, List.Elements.Contains-append_left, List.Elements.Contains-append_right}
use Rattle.std.proofs.lemmas.List.{take_more, get_or_default}
use Rattle.std.specs.{List.Contains, List.AllZip, List.cons_option, Option.is_some, Prelude.IfSome}
use Rattle.wit_model.specs.Uses.{has}
use Rattle.base_lemmas.proofs.{Bools.or_true as or-true, Elements.contains-later, Numbers.equal, Numbers.same-number}

pub filter_map_one : {X Y : Type 0} (h : X → Option Y) (x : X) → filter_map h (x ∷ []) ≡ option_to_list (h x)
filter_map_one h x = elim (h x) as (λ o. filter_map (λ y. o) (x ∷ []) ≡ option_to_list o) [ None ↦ refl | Some y ↦ refl ]

pub filter_map_more : {X Y : Type 0} (h : X → Option Y) (xs : List X) (i : ℕ) (x : X) → i < length xs → x ≡ get_or xs i x
    → filter_map h (take (i + 1) xs) ≡ filter_map h (take i xs) ++ option_to_list (h x)
filter_map_more h xs i x l e = ap (filter_map h) (take_more xs i x l) ∙ filter_map-append h (take i xs) (get_or xs i x ∷ [])
    ∙ ap (λ ys. filter_map h (take i xs) ++ ys) (filter_map_one h (get_or xs i x) ∙ ap (λ y. option_to_list (h y)) (sym e))

-- ---- elements

pub given-here : {Y : Type 0} (o : Option Y) (ys : List Y) (y : Y) → Contains (option_to_list o) y → Contains (cons_option o ys) y
given-here x ys y z = search std_rules

pub given-later : {Y : Type 0} (o : Option Y) (ys : List Y) (y : Y) → Contains ys y → Contains (cons_option o ys) y
given-later None ys y c = c
given-later (Some z) ys y (i, l, e) = (suc i, omega arith, e)

pub contains-filter_map : {X Y : Type 0} (h : X → Option Y) (xs : List X) (x : X) (y : Y) → Contains xs x → Contains (option_to_list (h x)) y → Contains (filter_map h xs) y
contains-filter_map h [] x y (i, l, e) d = absurd (omega (arith, l))
contains-filter_map h (z ∷ xs) x y (zero, l, e) d = given-here (h z) (filter_map h xs) y (subst (λ w. Contains (option_to_list (h w)) y) (sym e) d)
contains-filter_map h (z ∷ xs) x y (suc i, l, e) d = given-later (h z) (filter_map h xs) y (contains-filter_map h xs x y (i, omega (arith, l), e) d)

-- ---- two lists, place by place

pub zip-push : {A B : Type 0} (R : A → B → Type 0) (xs : List A) (ys : List B) (x : A) (y : B) → AllZip R xs ys → R x y → AllZip R (xs ++ x ∷ []) (ys ++ y ∷ [])
zip-push R [] [] x y h r = (r, tt)
zip-push R [] (b ∷ ys) x y h r = absurd h
zip-push R (a ∷ xs) [] x y h r = absurd h
zip-push R (a ∷ xs) (b ∷ ys) x y h r = (h.0, zip-push R xs ys x y h.1 r)

-- the loop over the second list
pub zip-more : {A B : Type 0} (R : A → B → Type 0) (xs : List A) (ys : List B) (i : ℕ) (x : A) (y : B) → i < length ys → y ≡ get_or ys i y → AllZip R xs (take i ys) → R x y
    → AllZip R (xs ++ x ∷ []) (take (i + 1) ys)
zip-more R xs ys i x y l e h r = search (std_rules, take_more, zip-push)

pub zip-along : {A B C : Type 0} (R : A → B → Type 0) (Q : A → C → Type 0) (f : B → C) → ((a : A) (b : B) → R a b → Q a (f b)) → (xs : List A) (ys : List B) → AllZip R xs ys → AllZip Q xs (map f ys)
zip-along R Q f k [] [] h = tt
zip-along R Q f k [] (b ∷ ys) h = h
zip-along R Q f k (a ∷ xs) [] h = h
zip-along R Q f k (a ∷ xs) (b ∷ ys) h = (k a b h.0, zip-along R Q f k xs ys h.1)

-- ---- reads

pub item-at : {X : Type 0} (xs ys : List X) (i : ℕ) (x d : X) → xs ≡ ys → i < length xs → x ≡ get_or xs i x → get_or ys i d ≡ x
item-at xs ys i x d s l e = ap (λ zs. get_or zs i d) (sym s) ∙ get_or_default xs i d x l ∙ sym e

pub some-from : {X : Type 0} (P : X → Type 0) (o : Option X) → is_some o ≡ true → IfSome o P → (x : X) × P x
some-from y u e h = search std_rules

-- ---- elements

pub contains-get : {X : Type 0} (xs : List X) (x : X) → Contains xs x → (k : ℕ) × (slice_get xs k ≡ Some x)
contains-get xs x (k, l, e) = (k, slice_get-get_or xs k x l ∙ ap Some e)

pub none-in : {X : Type 0} (x : X) {P : Type 0} → Contains [] x → P
none-in x (k, l, e) = absurd (omega (arith, l))

pub contains-flat : {X Y : Type 0} (f : X → List Y) (xs : List X) (x : X) (y : Y) → Contains xs x → Contains (f x) y → Contains (flat_map f xs) y
contains-flat f [] x y c d = none-in x c
contains-flat f (z ∷ xs) x y (zero, l, e) d = Contains-append_left (f z) (flat_map f xs) y (subst (λ w. Contains (f w) y) (sym e) d)
contains-flat f (z ∷ xs) x y (suc k, l, e) d = Contains-append_right (f z) (flat_map f xs) y (contains-flat f xs x y (k, omega (arith, l), e) d)

-- ---- numbers by a test

pub has-contains : (ns : List ℕ) (n : ℕ) → has ns n ≡ true → Contains ns n
has-contains [] n h = let wrong : ⊥ = cc in absurd wrong
has-contains (m ∷ ns) n h = go (has-contains ns n) (m == n) refl h
  where
    go : (has ns n ≡ true → Contains ns n) → (b : Bool) → (m == n) ≡ b → (b || has ns n) ≡ true → Contains (m ∷ ns) n
    go rest true e h = (0, omega arith, equal m n e)
    go rest false e h = contains-later m ns n (rest h)

pub contains-has : (ns : List ℕ) (n : ℕ) → Contains ns n → has ns n ≡ true
contains-has [] n c = none-in n c
contains-has (m ∷ ns) n (zero, l, e) = ap (λ b. b || has ns n) (subst (λ (k : ℕ). (m == k) ≡ true) e (same-number m))
contains-has (m ∷ ns) n (suc k, l, e) = ap (λ b. (m == n) || b) (contains-has ns n (k, omega (arith, l), e)) ∙ or-true (m == n)
