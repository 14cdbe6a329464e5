-- Lemmas on lists: lengths, positions, joined lists, maps and filters.
use Rattle.std.proofs.Common.{Bool, List, None, Option, Some, [], add-one, ap, arith, false, filter_map, inl, inr, is_some, length, map, option_map, refl, slice_get, slice_set, suc, sym, take, true, unwrap_or, zero, ℕ, ◌++◌, ◌+◌, ◌<◌, ◌==◌, ◌∙◌, ◌∷◌, ◌≡◌, ◌≢◌, ◌⊎◌}
use Rattle.std.proofs.lemmas.{Bool.eq-eqb, Bool.eqb-true, Bool.false≢true, Option.same_Some as same-some, Option.slice_get-map}
use Rattle.std.specs.{List.cons_option, List.filter, List.flat_map, Option.option_map_or}

pub within_there : {X : Type 0} (xs : List X) (n : ℕ) → n < length xs → (x : X) × (slice_get xs n ≡ Some x)
within_there [] n l = absurd (omega (arith, l))
within_there (x ∷ xs) zero l = (x, refl)
within_there (x ∷ xs) (suc n) l = within_there xs n (omega (arith, l))

pub map_of_map : {A B C : Type 0} (f : B → C) (g : A → B) (xs : List A) → map f (map g xs) ≡ map (λ x. f (g x)) xs
map_of_map f g [] = refl
map_of_map f g (x ∷ xs) = ap (λ ys. f (g x) ∷ ys) (map_of_map f g xs)

pub at_last : {X : Type 0} (xs : List X) (x : X) → slice_get (xs ++ x ∷ []) (length xs) ≡ Some x
at_last [] x = refl
at_last (y ∷ xs) x = at_last xs x

pub is-nothing : (bytes : List ℕ) → length bytes ≡ 0 → bytes ≡ []
is-nothing [] none = refl
is-nothing (b ∷ bytes) none = let no : ⊥ = omega (arith, none) in absurd no

pub get_back : {A B : Type 0} (g : A → B) (xs : List A) (n : ℕ) (y : B) → slice_get (map g xs) n ≡ Some y → (x : A) × (slice_get xs n ≡ Some x) × (g x ≡ y)
get_back g [] n y e = absurd (let wrong : ⊥ = cc in wrong)
get_back g (x ∷ xs) zero y e = (x, refl, ap (λ o. unwrap_or o y) e)
get_back g (x ∷ xs) (suc n) y e = get_back g xs n y e

pub middle_get : {A : Type 0} (xs : List A) (x : A) (ys : List A) → slice_get (xs ++ x ∷ ys) (length xs) ≡ Some x
middle_get [] x ys = refl
middle_get (z ∷ xs) x ys = middle_get xs x ys

pub none_there : {X : Type 0} (n : ℕ) (x : X) → slice_get [] n ≡ Some x → ⊥
none_there zero x e = cc
none_there (suc n) x e = cc

pub mapped_get : {A B : Type 0} (f : A → B) (xs : List A) (n : ℕ) (x : A) → slice_get xs n ≡ Some x → slice_get (map f xs) n ≡ Some (f x)
mapped_get f xs n x e = slice_get-map f xs n ∙ ap (option_map f) e

pub front_at : {X : Type 0} (xs ys : List X) (n : ℕ) (x : X) → slice_get xs n ≡ Some x → slice_get (xs ++ ys) n ≡ Some x
front_at [] ys n x e = let wrong : ⊥ = cc in absurd wrong
front_at (y ∷ xs) ys zero x e = e
front_at (y ∷ xs) ys (suc n) x e = front_at xs ys n x e

pub slice_take : {X : Type 0} (xs : List X) (n m : ℕ) → m < n → slice_get (take n xs) m ≡ slice_get xs m
slice_take [] zero m h = refl
slice_take [] (suc n) m h = refl
slice_take (x ∷ xs) zero m h = absurd (omega (arith, h))
slice_take (x ∷ xs) (suc n) zero h = refl
slice_take (x ∷ xs) (suc n) (suc m) h = slice_take xs n m (omega (arith, h))

pub append_of_map : {A B : Type 0} (g : A → B) (xs ys : List A) → map g (xs ++ ys) ≡ map g xs ++ map g ys
append_of_map g [] ys = refl
append_of_map g (x ∷ xs) ys = ap (λ zs. g x ∷ zs) (append_of_map g xs ys)

pub front_more : {X : Type 0} (xs : List X) (y : X) (n : ℕ) (x : X) → slice_get xs n ≡ Some x → slice_get (xs ++ y ∷ []) n ≡ Some x
front_more [] y n x e = absurd cc
front_more (z ∷ xs) y zero x e = e
front_more (z ∷ xs) y (suc n) x e = front_more xs y n x e

pub append_none : {A : Type 0} (xs : List A) → xs ++ [] ≡ xs
append_none [] = refl
append_none (x ∷ xs) = ap (λ l. x ∷ l) (append_none xs)

pub slice_front : {X : Type 0} (xs ys : List X) (n : ℕ) → n < length xs → slice_get (xs ++ ys) n ≡ slice_get xs n
slice_front [] ys n h = absurd (omega (arith, h))
slice_front (x ∷ xs) ys zero h = refl
slice_front (x ∷ xs) ys (suc n) h = slice_front xs ys n (omega (arith, h))

pub heads_equal : {A : Type 0} (x y : A) (xs ys : List A) → x ∷ xs ≡ y ∷ ys → x ≡ y
heads_equal x y xs ys e = cc

pub tails_equal : {A : Type 0} (x y : A) (xs ys : List A) → x ∷ xs ≡ y ∷ ys → xs ≡ ys
tails_equal x y xs ys e = cc

pub same_map : {A B : Type 0} (f g : A → B) → ((x : A) → f x ≡ g x) → (xs : List A) → map f xs ≡ map g xs
same_map f g same xs = ap (λ h. map h xs) (λ i x. same x i)

pub some_left : (rest : List ℕ) → false ≡ (length rest == 0) → length rest ≡ 0 → ⊥
some_left rest e none = false≢true (e ∙ eq-eqb (length rest) 0 none)

pub filter_all : {X : Type 0} (xs : List X) → filter (λ x. true) xs ≡ xs
filter_all [] = refl
filter_all (x ∷ xs) = ap (λ l. x ∷ l) (filter_all xs)

pub filter_of_map : {A B C : Type 0} (f : B → Option C) (g : A → B) (xs : List A) → filter_map f (map g xs) ≡ filter_map (λ x. f (g x)) xs
filter_of_map f g [] = refl
filter_of_map f g (x ∷ xs) = ap (λ ys. cons_option (f (g x)) ys) (filter_of_map f g xs)

pub flat_mapped : {A B C : Type 0} (f : B → List C) (g : A → B) (xs : List A) → flat_map (λ x. f (g x)) xs ≡ flat_map f (map g xs)
flat_mapped f g [] = refl
flat_mapped f g (x ∷ xs) = ap (λ l. f (g x) ++ l) (flat_mapped f g xs)

pub length_of_map : {A B : Type 0} (g : A → B) (xs : List A) → length (map g xs) ≡ length xs
length_of_map g [] = refl
length_of_map g (x ∷ xs) = ap suc (length_of_map g xs)

pub identity : {X : Type 0} (xs : List X) → map (λ x. x) xs ≡ xs
identity [] = refl
identity (x ∷ xs) = ap (λ ys. x ∷ ys) (identity xs)

pub nothing-mapped : {A B : Type 0} (f : A → B) (xs : List A) → map f xs ≡ [] → xs ≡ []
nothing-mapped f [] e = refl
nothing-mapped f (x ∷ xs) e = let wrong : ⊥ = cc in absurd wrong

pub given-some : {A : Type 0} (test : A → Bool) (x : Option A) → option_map_or test x false ≡ true → is_some x ≡ true
given-some test None h = let wrong : ⊥ = cc in absurd wrong
given-some test (Some a) h = refl

pub split_at : {A : Type 0} (xs ys : List A) (n : ℕ) (x : A) → slice_get (xs ++ ys) n ≡ Some x → (slice_get xs n ≡ Some x) ⊎ ((k : ℕ) × (n ≡ length xs + k) × (slice_get ys k ≡ Some x))
split_at [] ys n x e = inr (n, omega arith, e)
split_at (z ∷ xs) ys zero x e = inl e
split_at (z ∷ xs) ys (suc n) x e = elim (split_at xs ys n x e) [ inl here ↦ inl here | inr later ↦ inr (later.0, (let is = later.1 in omega (arith, is)), later.2) ]

pub last_or : {X : Type 0} (xs : List X) (y : X) (n : ℕ) (x : X) → slice_get (xs ++ y ∷ []) n ≡ Some x → ((n < length xs) × (slice_get xs n ≡ Some x)) ⊎ ((n ≡ length xs) × (y ≡ x))
last_or [] y zero x e = inr (refl, (let same : y ≡ x = cc in same))
last_or [] y (suc n) x e = absurd cc
last_or (z ∷ xs) y zero x e = inl (omega arith, e)
last_or (z ∷ xs) y (suc n) x e = elim (last_or xs y n x e) [ inl h ↦ inl (omega (arith, h.0), h.1) | inr h ↦ inr (omega (arith, h.0), h.1) ]

pub front_or_end : {X : Type 0} (xs : List X) (y : X) (n : ℕ) (x : X) → slice_get (xs ++ y ∷ []) n ≡ Some x → (slice_get xs n ≡ Some x) ⊎ ((n ≡ length xs) × (y ≡ x))
front_or_end [] y zero x e = inr (refl, (let same : y ≡ x = cc in same))
front_or_end [] y (suc n) x e = absurd (none_there n x e)
front_or_end (z ∷ xs) y zero x e = inl e
front_or_end (z ∷ xs) y (suc n) x e = by (front_or_end xs y n x e)
  where
    by : (slice_get xs n ≡ Some x) ⊎ ((n ≡ length xs) × (y ≡ x)) → (slice_get xs n ≡ Some x) ⊎ ((suc n ≡ suc (length xs)) × (y ≡ x))
    by (inl a) = inl a
    by (inr b) = inr (ap suc b.0, b.1)

pub front_or_last : {X : Type 0} (xs : List X) (y : X) (n : ℕ) (x : X) → slice_get (xs ++ y ∷ []) n ≡ Some x → (slice_get xs n ≡ Some x) ⊎ (y ≡ x)
front_or_last [] y zero x e = inr (let same : y ≡ x = cc in same)
front_or_last [] y (suc n) x e = absurd (none_there n x e)
front_or_last (z ∷ xs) y zero x e = inl e
front_or_last (z ∷ xs) y (suc n) x e = front_or_last xs y n x e

pub take_found : {X : Type 0} (xs : List X) (n : ℕ) (x : X) → slice_get xs n ≡ Some x → take (n + 1) xs ≡ take n xs ++ x ∷ []
take_found {X = X} xs n x e = ap (λ m. take m xs) (add-one n) ∙ by xs n e
  where
    by : (xs : List X) (n : ℕ) → slice_get xs n ≡ Some x → take (suc n) xs ≡ take n xs ++ x ∷ []
    by [] n e = absurd cc
    by (y ∷ xs) zero e = let same : y ≡ x = cc in ap (λ z. z ∷ []) same
    by (y ∷ xs) (suc n) e = ap (λ zs. y ∷ zs) (by xs n e)

pub one_item : {X : Type 0} (xs : List X) (n : ℕ) (x y : X) → slice_get xs n ≡ Some x → slice_get xs n ≡ Some y → x ≡ y
one_item xs n x y e f = same-some x y (sym e ∙ f)

pub none_left : (rest : List ℕ) → true ≡ (length rest == 0) → length rest ≡ 0
none_left rest e = eqb-true (length rest) 0 (sym e)

pub set_there : {X : Type 0} (xs : List X) (i k : ℕ) (y : X) → k ≢ i → slice_get (slice_set xs i y) k ≡ slice_get xs k
set_there [] i k y h = refl
set_there (x ∷ xs) zero zero y h = absurd (h refl)
set_there (x ∷ xs) zero (suc k) y h = refl
set_there (x ∷ xs) (suc i) zero y h = refl
set_there (x ∷ xs) (suc i) (suc k) y h = set_there xs i k y (λ e. h (ap suc e))
