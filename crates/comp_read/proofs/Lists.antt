-- Lists that are looked through, and numbers that stand once.
use Rattle.std.proofs.Common.{rules as std_rules, ◌≡◌, refl, sym, ap, subst, ◌∙◌, ℕ, zero, suc, ◌+◌, ◌<◌, ◌⊎◌, inl, inr, arith, Bool, true, false, not, filter, List, [], ◌∷◌, ◌++◌, length, length-append, map, Some, None, slice_get}
use Rattle.std.proofs.lemmas.List.Elements.{Contains-append_cases, Contains-append_left, Contains-append_right, filter-append}
use Rattle.std.proofs.lemmas.{Bool.and_from as both, Option.same_Some as same-some}
use Rattle.std.specs.List.{AllByRecursion, AllZip, Contains, flat_map}
use Rattle.wit_model.specs.Uses.{has}
use Rattle.wit_model.proofs.Elements.{contains-get, has-contains, none-in}
use Rattle.plan_meaning.specs.NumberedWorlds.{are_once}
use Rattle.plan_laws.proofs.OwnPlaces.{AreDifferent, all_taken}
use Rattle.base_lemmas.proofs.{Elements.contains-later, Elements.get-contains, Lists.one_item, Lists.split_at as append_at}

-- ---- the first that passes

pub record IsFirstPassing {X : Type 0} (test : X → Bool) (xs : List X) : Type 0 where
  pub number : ℕ
  pub one : X
  pub at : slice_get xs number ≡ Some one
  pub passes : test one ≡ true
  pub before : (k : ℕ) (y : X) → k < number → slice_get xs k ≡ Some y → test y ≡ true → ⊥

pub first_passing : {X : Type 0} (test : X → Bool) (xs : List X) (n : ℕ) (x : X) → slice_get xs n ≡ Some x → test x ≡ true → IsFirstPassing test xs
first_passing test [] n x e h = let wrong : None ≡ Some x = e in absurd cc
first_passing test (y ∷ xs) zero x e h = record { number = 0; one = y; at = refl; passes = ap test (same-some y x e) ∙ h; before = λ k z low f p. omega (arith, low) }
first_passing {X = X} test (y ∷ xs) (suc n) x e h = by (test y) refl (first_passing test xs n x e h)
  where
    not_before : test y ≡ false → (found : IsFirstPassing test xs) → (k : ℕ) (z : X) → k < suc found.number → slice_get (y ∷ xs) k ≡ Some z → test z ≡ true → ⊥
    not_before fails found zero z low f p = let wrong : false ≡ true = sym fails ∙ (ap test (same-some y z f) ∙ p) in cc
    not_before fails found (suc k) z low f p = found.before k z (omega (arith, low)) f p

    by : (b : Bool) → test y ≡ b → IsFirstPassing test xs → IsFirstPassing test (y ∷ xs)
    by true here found = record { number = 0; one = y; at = refl; passes = here; before = λ k z low f p. omega (arith, low) }
    by false fails found = record { number = suc found.number; one = found.one; at = found.at; passes = found.passes; before = not_before fails found }

-- ---- where an item lies among those of all

-- how many items come before those of this number
abbrev pub before_of : {A B : Type 0} → (A → List B) → List A → ℕ → ℕ
before_of f [] n = 0
before_of f (x ∷ xs) zero = 0
before_of f (x ∷ xs) (suc n) = length (f x) + before_of f xs n

pub record IsOfOne {A B : Type 0} (f : A → List B) (xs : List A) (i : ℕ) (y : B) : Type 0 where
  pub number : ℕ
  pub one : A
  pub at : slice_get xs number ≡ Some one
  pub inner : ℕ
  pub there : slice_get (f one) inner ≡ Some y
  pub is : i ≡ before_of f xs number + inner

pub of_one : {A B : Type 0} (f : A → List B) (xs : List A) (i : ℕ) (y : B) → slice_get (flat_map f xs) i ≡ Some y → IsOfOne f xs i y
of_one f [] i y e = let wrong : None ≡ Some y = e in absurd cc
of_one {A = A} {B = B} f (x ∷ xs) i y e = by (λ j at. of_one f xs j y at) (append_at (f x) (flat_map f xs) i y e)
  where
    by : ((j : ℕ) → slice_get (flat_map f xs) j ≡ Some y → IsOfOne f xs j y) → (slice_get (f x) i ≡ Some y) ⊎ ((j : ℕ) × (i ≡ length (f x) + j) × (slice_get (flat_map f xs) j ≡ Some y))
        → IsOfOne f (x ∷ xs) i y
    by deeper (inl here) = record { number = 0; one = x; at = refl; inner = i; there = here; is = omega arith }
    by deeper (inr (j, is, later)) =
        let found = deeper j later in
        record { number = suc found.number; one = found.one; at = found.at; inner = found.inner; there = found.there; is = (let less = found.is in omega (arith, is, less)) }

-- ---- numbers that stand once

-- two items with one number are one
abbrev pub IsOnceAt : List ℕ → Type 0
IsOnceAt ns = (i j n : ℕ) → slice_get ns i ≡ Some n → slice_get ns j ≡ Some n → i ≡ j

absent : (ns : List ℕ) (n : ℕ) → (Contains ns n → ⊥) → has ns n ≡ false
absent ns n none = search (std_rules, has-contains)

pub once_given : (ns : List ℕ) → IsOnceAt ns → are_once ns ≡ true
once_given [] once = refl
once_given (n ∷ ns) once =
    both (not (has ns n)) (are_once ns) (ap not (absent ns n (λ c. let there = contains-get ns n c in let wrong = once 0 (suc there.0) n refl there.1 in omega (arith, wrong))))
    (once_given ns (λ i j m e f. let same = once (suc i) (suc j) m e f in omega (arith, same)))

pub once_different : (ns : List ℕ) → AreDifferent ns → IsOnceAt ns
once_different [] apart i j n e f = let wrong : None ≡ Some n = e in absurd cc
once_different (m ∷ ns) apart zero zero n e f = refl
once_different (m ∷ ns) apart zero (suc j) n e f = absurd (apart.0 (subst (Contains ns) (sym (same-some m n e)) (get-contains ns j n f)))
once_different (m ∷ ns) apart (suc i) zero n e f = absurd (apart.0 (subst (Contains ns) (sym (same-some m n f)) (get-contains ns i n e)))
once_different (m ∷ ns) apart (suc i) (suc j) n e f = ap suc (once_different ns apart.1 i j n e f)

-- ---- as many different numbers

record Parted {A : Type 0} (xs : List A) (x : A) : Type 0 where
  front : List A
  back : List A
  is : xs ≡ front ++ x ∷ back

parted : {A : Type 0} (xs : List A) (x : A) → Contains xs x → Parted xs x
parted [] x c = none-in x c
parted (y ∷ xs) x (zero, low, e) = record { front = []; back = xs; is = ap (λ z. z ∷ xs) e }
parted (y ∷ xs) x (suc i, low, e) = let rest = parted xs x (i, omega (arith, low), e) in record { front = y ∷ rest.front; back = rest.back; is = ap (λ zs. y ∷ zs) rest.is }

-- one is the item between, or stands on one side of it
beside : {A : Type 0} (front back : List A) (x y : A) → Contains (front ++ x ∷ back) y → (y ≡ x) ⊎ Contains (front ++ back) y
beside {A = A} front back x y c = by (Contains-append_cases front (x ∷ back) y c)
  where
    behind : Contains (x ∷ back) y → (y ≡ x) ⊎ Contains (front ++ back) y
    behind (zero, low, e) = inl (sym e)
    behind (suc i, low, e) = inr (Contains-append_right front back y (i, omega (arith, low), e))

    by : Contains front y ⊎ Contains (x ∷ back) y → (y ≡ x) ⊎ Contains (front ++ back) y
    by (inl there) = inr (Contains-append_left front back y there)
    by (inr there) = behind there

-- one more, that isn't among the others
put_between : {A : Type 0} (front back : List A) (x : A) → AreDifferent (front ++ back) → (Contains (front ++ back) x → ⊥) → AreDifferent (front ++ x ∷ back)
put_between [] back x apart new = (new, apart)
put_between {A = A} (y ∷ front) back x apart new = ((λ c. by (beside front back x y c)), put_between front back x apart.1 (λ c. new (contains-later y (front ++ back) x c)))
  where
    by : (y ≡ x) ⊎ Contains (front ++ back) y → ⊥
    by (inl same) = new (0, omega arith, same)
    by (inr there) = apart.0 there

-- Lists that stand one behind the other have no number twice, where each of them has none twice and no two have one.
pub once_owned : {A : Type 0} (f : A → List ℕ) (xs : List A) → ((m : ℕ) (y : A) → slice_get xs m ≡ Some y → AreDifferent (f y))
    → ((m n : ℕ) (y z : A) → slice_get xs m ≡ Some y → slice_get xs n ≡ Some z → (q : ℕ) → Contains (f y) q → Contains (f z) q → m ≡ n) → are_once (flat_map f xs) ≡ true
once_owned {A = A} f xs differ owner = once_given (flat_map f xs) (λ i j q e g. by i j q (of_one f xs i q e) (of_one f xs j q g))
  where
    by : (i j q : ℕ) → IsOfOne f xs i q → IsOfOne f xs j q → i ≡ j
    by i j q a b =
        let one : a.number ≡ b.number = owner a.number b.number a.one b.one a.at b.at q (get-contains (f a.one) a.inner q a.there) (get-contains (f b.one) b.inner q b.there) in
        omega (
          arith,
          ap (before_of f xs) one,
          (once_different (f b.one) (differ b.number b.one b.at) a.inner b.inner q (subst (λ (z : A). slice_get (f z) a.inner ≡ Some q)
              (one_item xs b.number a.one b.one (subst (λ k. slice_get xs k ≡ Some a.one) one a.at) b.at) a.there) b.there),
          a.is,
          b.is,
        )

-- As many numbers as some that differ, and among which these are, differ.
pub all_different : {A : Type 0} (cs xs : List A) → AreDifferent cs → ((c : A) → Contains cs c → Contains xs c) → length xs ≡ length cs → AreDifferent xs
all_different [] [] apart among many = tt
all_different [] (x ∷ xs) apart among many = absurd (omega (arith, many))
all_different {A = A} (c ∷ cs) xs apart among many = by (λ rest each as_many. all_different cs rest apart.1 each as_many) (parted xs c (among c (0, omega arith, refl)))
  where
    still : (p : Parted xs c) (y : A) → Contains cs y → (y ≡ c) ⊎ Contains (p.front ++ p.back) y → Contains (p.front ++ p.back) y
    still p y d (inl same) = absurd (apart.0 (subst (Contains cs) same d))
    still p y d (inr rest) = rest

    others : (p : Parted xs c) (y : A) → Contains cs y → Contains (p.front ++ p.back) y
    others p y d = still p y d (beside p.front p.back c y (subst (λ zs. Contains zs y) p.is (among y (contains-later c cs y d))))

    fewer : (p : Parted xs c) → length (p.front ++ p.back) ≡ length cs
    fewer p = omega (arith, ap length p.is, (length-append p.front (c ∷ p.back)), length-append p.front p.back, many)

    by : ((rest : List A) → ((y : A) → Contains cs y → Contains rest y) → length rest ≡ length cs → AreDifferent rest) → (p : Parted xs c) → AreDifferent xs
    by deeper p = subst AreDifferent (sym p.is)
        (put_between p.front p.back c (deeper (p.front ++ p.back) (others p) (fewer p)) (λ d. apart.0 (all_taken cs (p.front ++ p.back) apart.1 (others p) (fewer p) c d)))

-- ---- what a test lets through

pub filter_flat : {A : Type 0} (test : ℕ → Bool) (f : A → List ℕ) (xs : List A) → filter test (flat_map f xs) ≡ flat_map (λ (x : A). filter test (f x)) xs
filter_flat test f [] = refl
filter_flat test f (x ∷ xs) = filter-append test (f x) (flat_map f xs) ∙ ap (λ zs. filter test (f x) ++ zs) (filter_flat test f xs)

-- ---- lists side by side

-- what holds of each item by what stands beside it
pub all_beside : {A B C : Type 0} (R : A → B → Type 0) (Q : C → Type 0) (f : B → C) → ((a : A) (b : B) → R a b → Q (f b)) → (xs : List A) (ys : List B) → AllZip R xs ys → AllByRecursion Q (map f ys)
all_beside R Q f one [] [] all = tt
all_beside R Q f one (x ∷ xs) (y ∷ ys) all = (one x y all.0, all_beside R Q f one xs ys all.1)
all_beside R Q f one _ _ all = absurd all
