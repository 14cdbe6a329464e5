-- Lemmas on what holds of all elements of a list, of those at a position, and of two lists side by side.
use Rattle.base_lemmas.proofs.{Bools.left_of as first_true, Bools.right_of as second_true, Lists.none_there}
use Rattle.std.proofs.Common.{Bool, Contains, List, None, Option, Some, [], ap, arith, cond, false, filter_map, flat_map, get_or, inl, inr, length, map, nat_lt, not, refl, slice_get, subst, suc, sym, true, unwrap_or, zero, ℕ, ◌&&◌, ◌++◌, ◌+◌, ◌-◌, ◌<◌, ◌||◌, ◌∙◌, ◌∷◌, ◌≡◌}
use Rattle.std.proofs.{Math.ListN.get_or-map, Math.ListN.length-map, lemmas.List.Folds.list_all-append, lemmas.Option.same_Some as same-some}
use Rattle.std.proofs.lemmas.Bool.{and_from as both, cases_Bool, eq-eqb, eqb-true, ltb-true, or_right as or-second}
use Rattle.std.specs.{List.AllByRecursion, List.AllZip, List.cons_option, List.filter, List.list_all, List.list_any, Map.lookup, Prelude.nat_eq, Set.is_member}

pub map_from : {A B : Type 0} (g : A → B) (xs : List A) (y : B) → Contains (map g xs) y → (x : A) × Contains xs x × (g x ≡ y)
map_from g [] y (i, l, e) = absurd (omega (arith, l))
map_from g (x ∷ xs) y (zero, l, e) = (x, (0, omega arith, refl), e)
map_from g (x ∷ xs) y (suc i, l, e) = let more = map_from g xs y (i, omega (arith, l), e) in (more.0, (suc more.1.0, (let k = more.1.1 in omega (arith, k)), more.1.2), more.2)

pub all_pass : {A : Type 0} (p : A → Bool) (xs : List A) → ((x : A) → Contains xs x → p x ≡ true) → list_all p xs ≡ true
all_pass p [] each = refl
all_pass p (x ∷ xs) each = both (p x) (list_all p xs) (each x (0, omega arith, refl)) (all_pass p xs (λ y at. each y (suc at.0, (let low = at.1 in omega (arith, low)), at.2)))

pub all_by_number : {A : Type 0} (test : A → Bool) (xs : List A) → ((n : ℕ) (x : A) → slice_get xs n ≡ Some x → test x ≡ true) → list_all test xs ≡ true
all_by_number test [] h = refl
all_by_number test (x ∷ xs) h = both (test x) (list_all test xs) (h 0 x refl) (all_by_number test xs (λ n y e. h (suc n) y e))

pub all_both : {A : Type 0} (P : A → Type 0) (xs ys : List A) → AllByRecursion P xs → AllByRecursion P ys → AllByRecursion P (xs ++ ys)
all_both P [] ys a c = c
all_both P (x ∷ xs) ys a c = (a.0, all_both P xs ys a.1 c)

pub last_of : {X : Type 0} (x y : X) → Contains (x ∷ []) y → x ≡ y
last_of x y (zero, low, h) = h
last_of x y (suc i, low, h) = absurd (omega (arith, low))

pub zip_map : {A B X : Type 0} (R : A → B → Type 0) (g : A → X) (h : B → X) → ((a : A) (b : B) → R a b → h b ≡ g a) → (xs : List A) (ys : List B) → AllZip R xs ys → map h ys ≡ map g xs
zip_map R g h one [] [] z = refl
zip_map R g h one [] (y ∷ ys) z = absurd z
zip_map R g h one (x ∷ xs) [] z = absurd z
zip_map R g h one (x ∷ xs) (y ∷ ys) z = λ i. one x y z.0 i ∷ zip_map R g h one xs ys z.1 i

pub zip_at : {A B : Type 0} (P : A → B → Type 0) (xs : List A) (ys : List B) → AllZip P xs ys → (j : ℕ) (x : A) → slice_get xs j ≡ Some x → (y : B) × (slice_get ys j ≡ Some y) × P x y
zip_at P [] ys all j x e = let wrong : None ≡ Some x = e in absurd cc
zip_at P (z ∷ xs) [] all j x e = absurd all
zip_at P (z ∷ xs) (y ∷ ys) all zero x e = (y, refl, subst (λ a. P a y) (same-some z x e) all.0)
zip_at P (z ∷ xs) (y ∷ ys) all (suc j) x e = zip_at P xs ys all.1 j x e

pub zip_at_right : {A B : Type 0} (R : A → B → Type 0) (xs : List A) (ys : List B) → AllZip R xs ys → (n : ℕ) (y : B) → slice_get ys n ≡ Some y → (x : A) × (slice_get xs n ≡ Some x) × R x y
zip_at_right R [] [] z n y e = absurd cc
zip_at_right R [] (y ∷ ys) z n w e = absurd z
zip_at_right R (x ∷ xs) [] z n w e = absurd z
zip_at_right R (x ∷ xs) (y ∷ ys) z zero w e = (x, refl, subst (R x) (same-some y w e) z.0)
zip_at_right R (x ∷ xs) (y ∷ ys) z (suc n) w e = zip_at_right R xs ys z.1 n w e

pub none_in : {X : Type 0} (x : X) → Contains [] x → ⊥
none_in x c = let none = c.1 in absurd (omega (arith, none))

pub any_of_map : {A B : Type 0} (test : B → Bool) (g : A → B) (xs : List A) → list_any test (map g xs) ≡ list_any (λ x. test (g x)) xs
any_of_map test g [] = refl
any_of_map test g (x ∷ xs) = ap (λ b. test (g x) || b) (any_of_map test g xs)

pub all_end : {A : Type 0} (P : A → Type 0) (xs : List A) (x : A) → AllByRecursion P xs → P x → AllByRecursion P (xs ++ x ∷ [])
all_end P [] x all one = (one, tt)
all_end P (y ∷ ys) x all one = (all.0, all_end P ys x all.1 one)

pub contains-one : {X : Type 0} (x : X) → Contains (x ∷ []) x
contains-one x = (0, omega arith, refl)

pub any-at : {X : Type 0} (p : X → Bool) (xs : List X) (x : X) → Contains xs x → p x ≡ true → list_any p xs ≡ true
any-at p [] x (i, l, e) h = absurd (omega (arith, l))
any-at p (y ∷ xs) x (zero, l, e) h = ap (λ b. b || list_any p xs) (ap p e ∙ h)
any-at p (y ∷ xs) x (suc i, l, e) h = or-second (p y) (list_any p xs) (any-at p xs x (i, omega (arith, l), e) h)

pub zip-kept : {A B : Type 0} (R Q : A → B → Type 0) → ((a : A) (b : B) → R a b → Q a b) → (xs : List A) (ys : List B) → AllZip R xs ys → AllZip Q xs ys
zip-kept R Q k [] [] h = tt
zip-kept R Q k [] (b ∷ ys) h = h
zip-kept R Q k (a ∷ xs) [] h = h
zip-kept R Q k (a ∷ xs) (b ∷ ys) h = (k a b h.0, zip-kept R Q k xs ys h.1)

pub all_two : {A : Type 0} (p q s : A → Bool) → ((x : A) → p x ≡ true → q x ≡ true → s x ≡ true) → (xs : List A) → list_all p xs ≡ true → list_all q xs ≡ true → list_all s xs ≡ true
all_two p q s make [] h k = refl
all_two p q s make (x ∷ xs) h k = both (s x) (list_all s xs) (make x (first_true (p x) (list_all p xs) h) (first_true (q x) (list_all q xs) k))
    (all_two p q s make xs (second_true (p x) (list_all p xs) h) (second_true (q x) (list_all q xs) k))

pub all_three : {A : Type 0} (p q s t : A → Bool) → ((x : A) → p x ≡ true → q x ≡ true → s x ≡ true → t x ≡ true) → (xs : List A) → list_all p xs ≡ true → list_all q xs ≡ true → list_all s xs ≡ true
    → list_all t xs ≡ true
all_three p q s t make [] f g h = refl
all_three p q s t make (x ∷ xs) f g h = both (t x) (list_all t xs) (make x (first_true (p x) (list_all p xs) f) (first_true (q x) (list_all q xs) g) (first_true (s x) (list_all s xs) h))
    (all_three p q s t make xs (second_true (p x) (list_all p xs) f) (second_true (q x) (list_all q xs) g) (second_true (s x) (list_all s xs) h))

pub flat-same : {X : Type 0} (f g : ℕ → List X) (n : ℕ) (ns : List ℕ) → ((m : ℕ) → m < n → f m ≡ g m) → list_all (λ m. nat_lt m n) ns ≡ true → flat_map f ns ≡ flat_map g ns
flat-same f g n [] same h = refl
flat-same f g n (m ∷ ns) same h = λ i. same m (ltb-true m n (first_true _ _ h)) i ++ flat-same f g n ns same (second_true _ _ h) i

pub seconds : {A X : Type 0} (Q : X → Type 0) (xs : List (A × X)) → AllByRecursion (λ x. Q x.1) xs → AllByRecursion Q (map (λ x. x.1) xs)
seconds Q [] all = tt
seconds Q (x ∷ xs) all = (all.0, seconds Q xs all.1)

pub all_at : {X : Type 0} (P : X → Type 0) (xs : List X) → AllByRecursion P xs → (x : X) → Contains xs x → P x
all_at P [] all x (i, low, e) = absurd (omega (arith, low))
all_at P (y ∷ xs) all x (zero, low, e) = subst P e all.0
all_at P (y ∷ xs) all x (suc i, low, e) = all_at P xs all.1 x (i, omega (arith, low), e)

pub all_at_too : {X : Type 0} (P : X → Type 0) (xs : List X) → AllByRecursion P xs → (n : ℕ) (x : X) → slice_get xs n ≡ Some x → P x
all_at_too P [] all n x at = absurd (none_there n x at)
all_at_too P (y ∷ xs) all zero x at = subst P (same-some y x at) all.0
all_at_too P (y ∷ xs) all (suc n) x at = all_at_too P xs all.1 n x at

pub zip_each : {A B : Type 0} (R P : A → B → Type 0) (xs : List A) (ys : List B) → AllZip R xs ys → ((k : ℕ) (x : A) (y : B) → slice_get xs k ≡ Some x → slice_get ys k ≡ Some y → P x y)
    → AllZip P xs ys
zip_each R P [] [] zip each = tt
zip_each R P [] (y ∷ ys) zip each = absurd zip
zip_each R P (x ∷ xs) [] zip each = absurd zip
zip_each R P (x ∷ xs) (y ∷ ys) zip each = (each 0 x y refl refl, zip_each R P xs ys zip.1 (λ k a c e f. each (suc k) a c e f))

pub zip-append : {A B : Type 0} (R : A → B → Type 0) (xs : List A) (ys : List B) (us : List A) (vs : List B) → AllZip R xs ys → AllZip R us vs → AllZip R (xs ++ us) (ys ++ vs)
zip-append R [] [] us vs z w = w
zip-append R [] (b ∷ ys) us vs z w = absurd z
zip-append R (a ∷ xs) [] us vs z w = absurd z
zip-append R (a ∷ xs) (b ∷ ys) us vs z w = (z.0, zip-append R xs ys us vs z.1 w)

pub zip_long : {X Y : Type 0} (P : X → Y → Type 0) (xs : List X) (ys : List Y) → AllZip P xs ys → length xs ≡ length ys
zip_long P [] [] h = refl
zip_long P [] (y ∷ ys) h = absurd h
zip_long P (x ∷ xs) [] h = absurd h
zip_long P (x ∷ xs) (y ∷ ys) h = let r = zip_long P xs ys h.1 in omega (arith, r)

pub filter_map_from : {A B : Type 0} (h : A → Option B) (xs : List A) (y : B) → Contains (filter_map h xs) y → (n : ℕ) × (x : A) × (slice_get xs n ≡ Some x) × (h x ≡ Some y)
filter_map_from h [] y (i, l, e) = absurd (omega (arith, l))
filter_map_from h (x ∷ xs) y c = go (h x) refl c (filter_map_from h xs y)
  where
    go : (o : Option _) → h x ≡ o → Contains (cons_option o (filter_map h xs)) y → (Contains (filter_map h xs) y → (n : ℕ) × (z : _) × (slice_get xs n ≡ Some z) × (h z ≡ Some y)) → (n : ℕ) × (z : _)
        × (slice_get (x ∷ xs) n ≡ Some z) × (h z ≡ Some y)
    go None e c rest = let more = rest c in (suc more.0, more.1, more.2, more.3)
    go (Some z) e (zero, l, f) rest = (0, x, refl, e ∙ ap Some f)
    go (Some z) e (suc i, l, f) rest = let more = rest (i, omega (arith, l), f) in (suc more.0, more.1, more.2, more.3)

pub first-contained : {X : Type 0} (x : X) (xs : List X) → Contains (x ∷ xs) x
first-contained x xs = (0, omega arith, refl)

pub contains-map : {X Y : Type 0} (f : X → Y) (xs : List X) (x : X) → Contains xs x → Contains (map f xs) (f x)
contains-map f xs x (i, l, e) = (i, subst (λ (n : ℕ). i < n) (sym (length-map xs f)) l, get_or-map f xs i x ∙ ap f e)

pub contains-later : {X : Type 0} (y : X) (xs : List X) (x : X) → Contains xs x → Contains (y ∷ xs) x
contains-later y xs x (k, l, e) = (suc k, omega (arith, l), e)

pub there-member : (xs : List ℕ) (q : ℕ) → Contains xs q → is_member nat_eq xs q ≡ true
there-member xs q c = any-at (nat_eq q) xs q c (eq-eqb q q refl)

pub member-there : (xs : List ℕ) (q : ℕ) → is_member nat_eq xs q ≡ true → Contains xs q
member-there [] q h = absurd (let z : ⊥ = cc in z)
member-there (x ∷ xs) q h = elim (cases_Bool (nat_eq q x)) [
  | inl e ↦ (0, omega arith, sym (eqb-true q x e))
  | inr e ↦ let c = member-there xs q (sym (ap (λ b. b || list_any (nat_eq q) xs) e) ∙ h) in (suc c.0, (let n = c.1 in omega arith), c.2)
]

pub flat_all_mapped : {X Y : Type 0} (p : ℕ → Bool) (g : Y → List ℕ) (h : X → Y) (xs : List X) → list_all p (flat_map g (map h xs)) ≡ list_all (λ x. list_all p (g (h x))) xs
flat_all_mapped p g h [] = refl
flat_all_mapped p g h (x ∷ xs) = list_all-append p (g (h x)) (flat_map g (map h xs)) ∙ ap (λ b. list_all p (g (h x)) && b) (flat_all_mapped p g h xs)

pub flat_all : {X : Type 0} (p : ℕ → Bool) (g : X → List ℕ) (xs : List X) → list_all p (flat_map g xs) ≡ list_all (λ x. list_all p (g x)) xs
flat_all p g [] = refl
flat_all p g (x ∷ xs) = list_all-append p (g x) (flat_map g xs) ∙ ap (λ b. list_all p (g x) && b) (flat_all p g xs)

pub all-contained : {X : Type 0} (p : X → Bool) (xs : List X) (x : X) → list_all p xs ≡ true → Contains xs x → p x ≡ true
all-contained p [] x h (i, l, e) = absurd (omega (arith, l))
all-contained p (y ∷ xs) x h (zero, l, e) = ap p (sym e) ∙ first_true (p y) (list_all p xs) h
all-contained p (y ∷ xs) x h (suc i, l, e) = all-contained p xs x (second_true (p y) (list_all p xs) h) (i, omega (arith, l), e)

pub joined_well : {X : Type 0} (p : X → Bool) (xs ys : List X) → list_all p xs ≡ true → list_all p ys ≡ true → list_all p (xs ++ ys) ≡ true
joined_well p xs ys h g = list_all-append p xs ys ∙ both (list_all p xs) _ h g

pub not_all : {X : Type 0} (p : X → Bool) (xs : List X) → list_any p xs ≡ not (list_all (λ x. not (p x)) xs)
not_all p [] = refl
not_all p (x ∷ xs) = go (not_all p xs) (p x)
  where
    go : list_any p xs ≡ not (list_all (λ x. not (p x)) xs) → (b : Bool) → (b || list_any p xs) ≡ not (not b && list_all (λ x. not (p x)) xs)
    go rest true = refl
    go rest false = rest

pub any-contains : {A : Type 0} (p : A → Bool) (xs : List A) → list_any p xs ≡ true → (x : A) × Contains xs x × (p x ≡ true)
any-contains p [] h = let wrong : ⊥ = cc in absurd wrong
any-contains p (x ∷ xs) h = go (any-contains p xs) (p x) refl h
  where
    go : (list_any p xs ≡ true → (y : _) × Contains xs y × (p y ≡ true)) → (b : Bool) → p x ≡ b → (b || list_any p xs) ≡ true → (y : _) × Contains (x ∷ xs) y × (p y ≡ true)
    go more true e h = (x, (0, omega arith, refl), e)
    go more false e h = let rest = more h in (rest.0, contains-later x xs rest.0 rest.1, rest.2)

pub lookup_stands : {K X : Type 0} (test : K → Bool) (es : List (K × X)) (v : X) → lookup test es ≡ Some v → (k : K) × Contains es (k, v) × (test k ≡ true)
lookup_stands test [] v h = let wrong : ⊥ = cc in absurd wrong
lookup_stands {K = K} {X = X} test (e ∷ es) v h = go (lookup_stands {K = K} {X = X} test es v) (test e.0) refl h
  where
    go : (lookup test es ≡ Some v → (k : K) × Contains es (k, v) × (test k ≡ true)) → (b : Bool) → test e.0 ≡ b → cond b (Some e.1) (lookup test es) ≡ Some v → (k : K) × Contains (e ∷ es) (k, v)
        × (test k ≡ true)
    go rest true t h = (e.0, (0, omega arith, λ i. (e.0, same-some e.1 v h i)), t)
    go rest false t h = let r = rest h in (r.0, contains-later e es (r.0, v) r.1, r.2)

pub get-contains : {X : Type 0} (xs : List X) (k : ℕ) (x : X) → slice_get xs k ≡ Some x → Contains xs x
get-contains [] k x e = let wrong : ⊥ = cc in absurd wrong
get-contains (y ∷ ys) zero x e = (0, omega arith, same-some y x e)
get-contains (y ∷ ys) (suc k) x e = let c = get-contains ys k x e in (suc c.0, (let l = c.1 in omega (arith, l)), c.2)

pub contains-at : {X : Type 0} (xs : List X) (i : ℕ) (x : X) → i < length xs → x ≡ get_or xs i x → Contains xs x
contains-at xs i x l e = (i, l, sym e)

pub all_get : {A : Type 0} (p : A → Bool) (xs : List A) (n : ℕ) (x : A) → list_all p xs ≡ true → slice_get xs n ≡ Some x → p x ≡ true
all_get p [] n x h e = absurd (let wrong : ⊥ = cc in wrong)
all_get p (y ∷ ys) zero x h e = let same : y ≡ x = ap (λ o. unwrap_or o y) e in ap p (sym same) ∙ first_true (p y) (list_all p ys) h
all_get p (y ∷ ys) (suc n) x h e = all_get p ys n x (second_true (p y) (list_all p ys) h) e

pub all_weaker : {A : Type 0} (p q : A → Bool) → ((x : A) → p x ≡ true → q x ≡ true) → (xs : List A) → list_all p xs ≡ true → list_all q xs ≡ true
all_weaker p q weaker [] h = refl
all_weaker p q weaker (x ∷ xs) h = both (q x) (list_all q xs) (weaker x (first_true (p x) (list_all p xs) h)) (all_weaker p q weaker xs (second_true (p x) (list_all p xs) h))

pub filter_kept : {X : Type 0} (test : X → Bool) (xs : List X) (x : X) → Contains (filter test xs) x → Contains xs x × (test x ≡ true)
filter_kept test [] x (i, low, e) = absurd (omega (arith, low))
filter_kept test (y ∷ xs) x c = by (test y) refl c (filter_kept test xs x)
  where
    by : (b : Bool) → test y ≡ b → Contains (cond b (y ∷ filter test xs) (filter test xs)) x → (Contains (filter test xs) x → Contains xs x × (test x ≡ true)) → Contains (y ∷ xs) x × (test x ≡ true)
    by true h (zero, low, e) more = ((0, omega arith, e), sym (ap test e) ∙ h)
    by true h (suc i, low, e) more = let rest = more (i, omega (arith, low), e) in (contains-later y xs x rest.0, rest.1)
    by false h d more = let rest = more d in (contains-later y xs x rest.0, rest.1)

pub filter_keeps : {X : Type 0} (test : X → Bool) (xs : List X) (x : X) → Contains xs x → test x ≡ true → Contains (filter test xs) x
filter_keeps test [] x (i, low, e) h = absurd (omega (arith, low))
filter_keeps test (y ∷ xs) x (zero, low, e) h =
    let passes : test y ≡ true = ap test e ∙ h in
    subst (λ b. Contains (cond b (y ∷ filter test xs) (filter test xs)) x) (sym passes) (0, omega arith, e)
filter_keeps test (y ∷ xs) x (suc i, low, e) h = by (test y) (filter_keeps test xs x (i, omega (arith, low), e) h)
  where
    by : (b : Bool) → Contains (filter test xs) x → Contains (cond b (y ∷ filter test xs) (filter test xs)) x
    by true more = contains-later y (filter test xs) x more
    by false more = more
