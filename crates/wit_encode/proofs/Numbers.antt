-- Lists of numbers: what stands before a place, what stands once, and what is given by one element alone.
use Rattle.std.proofs.Common.{◌≡◌, refl, sym, subst, ap, ◌∙◌, ℕ, zero, suc, ◌+◌, ◌≤◌, Bool, true, false, cond, ◌||◌, ◌==◌, ◌⊎◌, inl, inr, nat_eq, List, [], ◌∷◌, ◌++◌, append_assoc, append-nil, take, map, filter_map, count_by, slice_get, Option, Some, None, arith}
use Rattle.std.proofs.lemmas.{List.Elements.Contains-append_cases, List.Elements.Contains-append_right, List.Sums.sum_by-cons, Option.same_Some as same-some}
use Rattle.std.specs.{Prelude.AllPairs, List.Contains, List.IsDistinct, List.cons_option}
use Rattle.wit_model.specs.{Uses.has, Rules.each_after}
use Rattle.encode_types.proofs.{Pairs.pairs-head, Pairs.pairs-tail, Lists.none-in}
use Rattle.wit_model.proofs.Elements.{contains-has}
use Rattle.base_lemmas.proofs.{Bools.left_of as first_true, Bools.right_of as second_true, Elements.all_at, Elements.contains-later, Elements.last_of, Lists.heads_equal, Lists.nothing-mapped, Lists.tails_equal, Numbers.equal, Numbers.same-number}

-- ---- what stands once

-- how often one number is another
abbrev same-times : ℕ → ℕ → ℕ
same-times n m = cond (m == n) 1 0

count-cons : (n m : ℕ) (ns : List ℕ) → count_by (λ k. k == n) (m ∷ ns) ≡ same-times n m + count_by (λ k. k == n) ns
count-cons n m ns = sum_by-cons (λ x. cond (x == n) 1 0) m ns

counted : (ns : List ℕ) (k n : ℕ) → slice_get ns k ≡ Some n → 1 ≤ count_by (λ m. m == n) ns
counted [] k n e = absurd cc
counted (m ∷ ns) zero n e = let here : same-times n m ≡ 1 = ap (λ b. cond b 1 0) (subst (λ (k : ℕ). (m == k) ≡ true) (same-some m n e) (same-number m)) in omega (arith, here, count-cons n m ns)
counted (m ∷ ns) (suc k) n e = omega (arith, counted ns k n e, count-cons n m ns)

-- a number that stands at a place and before it stands twice
counted-twice : (ns : List ℕ) (k n : ℕ) → slice_get ns k ≡ Some n → has (take k ns) n ≡ true → 2 ≤ count_by (λ m. m == n) ns
counted-twice [] k n e h = absurd cc
counted-twice (m ∷ ns) zero n e h = absurd cc
counted-twice (m ∷ ns) (suc k) n e h = go (counted-twice ns k n e) (m == n) refl h
  where
    go : (has (take k ns) n ≡ true → 2 ≤ count_by (λ m. m == n) ns) → (b : Bool) → (m == n) ≡ b → (b || has (take k ns) n) ≡ true → 2 ≤ count_by (λ m. m == n) (m ∷ ns)
    go rest true q h = let here : same-times n m ≡ 1 = ap (λ b. cond b 1 0) q in omega (arith, here, counted ns k n e, count-cons n m ns)
    go rest false q h = omega (arith, rest h, count-cons n m ns)

-- a number that stands once doesn't stand before its place
pub once-before : (ns : List ℕ) (k n : ℕ) → slice_get ns k ≡ Some n → (count_by (λ m. m == n) ns == 1) ≡ true → Contains (take k ns) n → ⊥
once-before ns k n e one c = omega (arith, counted-twice ns k n e (contains-has (take k ns) n c), equal (count_by (λ m. m == n) ns) 1 one)

-- of numbers that stand once each, one of the first is none of those behind
pub apart-behind : (xs ys : List ℕ) (n : ℕ) → IsDistinct nat_eq (xs ++ ys) → Contains xs n → Contains ys n → ⊥
unfolding IsDistinct
apart-behind [] ys n d front back = none-in n front
apart-behind (x ∷ xs) ys n d front back = go (apart-behind xs ys n d.1) (Contains-append_cases (x ∷ []) xs n front)
  where
    go : (Contains xs n → Contains ys n → ⊥) → Contains (x ∷ []) n ⊎ Contains xs n → ⊥
    go later (inl c) =
        let wrong : true ≡ false = sym (subst (λ (k : ℕ). nat_eq x k ≡ true) (last_of x n c) (same-number x))
        ∙ all_at (λ y. nat_eq x y ≡ false) (xs ++ ys) d.0 n (Contains-append_right xs ys n back) in
        cc
    go later (inr c) = later c back

-- ---- each element, with those before it

pub after-at : {V : Type 0} (q : List V → V → Bool) (before xs : List V) (k : ℕ) (v : V) → each_after q before xs ≡ true → slice_get xs k ≡ Some v → q (before ++ take k xs) v ≡ true
after-at q before [] k v h e = absurd cc
after-at q before (x ∷ xs) zero v h e = ap (λ b. q b v) (append-nil before) ∙ (subst (λ z. q before z ≡ true) (same-some x v e) (first_true (q before x) (each_after q (before ++ x ∷ []) xs) h))
after-at q before (x ∷ xs) (suc k) v h e = ap (λ b. q b v) (sym (append_assoc before (x ∷ []) (take k xs)))
    ∙ after-at q (before ++ x ∷ []) xs k v (second_true (q before x) (each_after q (before ++ x ∷ []) xs) h) e

-- ---- what one element alone gives

pub gives-none : {X Y : Type 0} (h : X → Option Y) (xs : List X) → ((x : X) → Contains xs x → h x ≡ None) → filter_map h xs ≡ []
gives-none h [] all = refl
gives-none h (x ∷ xs) all = ap (λ o. cons_option o (filter_map h xs)) (all x (0, omega arith, refl)) ∙ gives-none h xs (λ y c. all y (contains-later x xs y c))

-- of elements with different numbers, the one of this number gives y, and the others give nothing
pub gives-one : {X Y : Type 0} (number : X → ℕ) (h : X → Option Y) (n : ℕ) (y : Y) (xs : List X) → AllPairs (λ a b. nat_eq (number a) (number b) ≡ false) xs → ((x : X) → number x ≡ n → h x ≡ Some y)
    → ((x : X) → Contains xs x → (number x ≡ n → ⊥) → h x ≡ None) → (x : X) → Contains xs x → number x ≡ n → filter_map h xs ≡ y ∷ []
gives-one number h n y [] apart is others x c e = none-in x c
gives-one {X} {Y} number h n y (z ∷ zs) apart is others x c e =
    go (gives-one number h n y zs (pairs-tail (λ a b. nat_eq (number a) (number b) ≡ false) z zs apart) is (λ w d. others w (contains-later z zs w d)) x) (number z == n) refl
  where
    later : (number z == n) ≡ false → (c : Contains (z ∷ zs) x) → Contains zs x
    later f (zero, l, q) = cc (sym (subst (λ (k : ℕ). (number z == k) ≡ true) (ap number q ∙ e) (same-number (number z))) ∙ f)
    later f (suc k, l, q) = (k, omega (arith, l), q)

    other : (number z == n) ≡ false → number z ≡ n → ⊥
    other f q = cc (sym (subst (λ (k : ℕ). (number z == k) ≡ true) q (same-number (number z))) ∙ f)

    rest-differ : number z ≡ n → (w : X) → Contains zs w → number w ≡ n → ⊥
    rest-differ q w d p =
        let wrong : true ≡ false = sym (subst (λ (k : ℕ). nat_eq (number z) k ≡ true) (q ∙ sym p) (same-number (number z))) ∙ pairs-head (λ a b. nat_eq (number a) (number b) ≡ false) z zs w apart d in
        cc

    go : (Contains zs x → number x ≡ n → filter_map h zs ≡ y ∷ []) → (b : Bool) → (number z == n) ≡ b → filter_map h (z ∷ zs) ≡ y ∷ []
    go rest true q =
        let here = equal (number z) n q in
        ap (λ o. cons_option o (filter_map h zs)) (is z here) ∙ ap (λ ys. y ∷ ys) (gives-none h zs (λ w d. others w (contains-later z zs w d) (rest-differ here w d)))
    go rest false q = ap (λ o. cons_option o (filter_map h zs)) (others z (0, omega arith, refl) (other q)) ∙ rest (later q c) e

-- a list that is mapped to one element
pub one-mapped : {A B : Type 0} (f : A → B) (xs : List A) (y : B) → map f xs ≡ y ∷ [] → (x : A) × (xs ≡ x ∷ []) × (f x ≡ y)
one-mapped f [] y e = absurd cc
one-mapped f (x ∷ xs) y e = (x, ap (λ zs. x ∷ zs) (nothing-mapped f xs (tails_equal _ _ _ _ e)), heads_equal _ _ _ _ e)
