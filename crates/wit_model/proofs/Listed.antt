-- A number that a map finds under one key, and holds under no other, stands in the map's numbers once.
use Rattle.std.proofs.Common.{rules as std_rules, ◌≡◌, refl, sym, ap, subst, ◌∙◌, ℕ, zero, suc, ◌+◌, ◌≤◌, Bool, true, false, ◌&&◌, ◌||◌, not, cond, ◌==◌, List, [], ◌∷◌, filter_map, count_by, option_and_then, Some, None, Option, slice_get, arith}
use Rattle.std.proofs.lemmas.{Bool.Decides.nat_tests, List.Sums.sum_by-cons, Option.same_Some as some_same}
use Rattle.std.specs.{List.list_all, List.cons_option, List.find, List.IsDistinct, List.AllByRecursion, Map.lookup, Map.keys_of, Map.values_of}
use Rattle.wit_model.specs.Rules.{is_id}
use Rattle.base_lemmas.proofs.Bools.{left_of as first_true, right_of as second_true}

no_some : {A B : Type 0} (x : A) → None ≡ Some x → B
no_some x e = let wrong : ⊥ = cc in absurd wrong

-- how often a number is given
abbrev given_once : ℕ → Option ℕ → ℕ
given_once n o = cond (is_id n o) 1 0

count_given : (n : ℕ) (o : Option ℕ) (ns : List ℕ) → count_by (λ m. m == n) (cons_option o ns) ≡ given_once n o + count_by (λ m. m == n) ns
count_given n None ns = omega arith
count_given n (Some m) ns = sum_by-cons (λ x. cond (x == n) 1 0) m ns

given_yes : (n : ℕ) (o : Option ℕ) → is_id n o ≡ true → given_once n o ≡ 1
given_yes n o e = ap (λ b. cond b 1 0) e

given_no : (n : ℕ) (o : Option ℕ) → is_id n o ≡ false → given_once n o ≡ 0
given_no n o e = ap (λ b. cond b 1 0) e

not_one : (m : ℕ) → 2 ≤ m → (m == 1) ≡ false
not_one m h = grind (arith, nat_tests)

module _ {K V : Type 0} (test : K → Bool) (num : V → Option ℕ) (n : ℕ) where
  abbrev times : List (K × V) → ℕ
  times es = count_by (λ m. m == n) (filter_map num (values_of es))

  abbrev is_found : List (K × V) → Bool
  is_found es = is_id n (option_and_then num (lookup test es))

  times_more : (e : K × V) (es : List (K × V)) → times (e ∷ es) ≡ given_once n (num e.1) + times es
  times_more e es = count_given n (num e.1) (filter_map num (values_of es))

  times_here : (es : List (K × V)) (q : ℕ) (e : K × V) → slice_get es q ≡ Some e → is_id n (num e.1) ≡ true → 1 ≤ times es
  times_here [] q e at here = no_some e at
  times_here (x ∷ xs) zero e at here = search (std_rules, some_same, times_more, given_yes)
  times_here (x ∷ xs) (suc q) e at here = omega (arith, times_more x xs, times_here xs q e at here)

  times_found : (es : List (K × V)) → is_found es ≡ true → 1 ≤ times es
  times_found [] h = let wrong : ⊥ = cc in absurd wrong
  times_found (x ∷ xs) h = go (times_found xs) (test x.0) refl h
    where
      go : (is_found xs ≡ true → 1 ≤ times xs) → (b : Bool) → test x.0 ≡ b → is_id n (option_and_then num (cond b (Some x.1) (lookup test xs))) ≡ true → 1 ≤ times (x ∷ xs)
      go rest true e f = omega (arith, times_more x xs, given_yes n (num x.1) f)
      go rest false e f = omega (arith, times_more x xs, rest f)

  -- a number that stands under a key that fails isn't found, or stands twice
  pub misfit : (es : List (K × V)) (q : ℕ) (e : K × V) → slice_get es q ≡ Some e → is_id n (num e.1) ≡ true → test e.0 ≡ false → (is_found es && (times es == 1)) ≡ false
  misfit [] q e at here fails = no_some e at
  misfit (x ∷ xs) zero e at here fails = search (std_rules, some_same, times_more, given_yes, times_found, not_one)
  misfit (x ∷ xs) (suc q) e at here fails = search (std_rules, times_more, given_yes, times_here, not_one, given_no, misfit xs q e at here fails)

  module _ (same : K → K → Bool) (joins : (a b : K) → test a ≡ true → test b ≡ true → same a b ≡ true) where
    none_left : (x : K) → test x ≡ true → (es : List (K × V)) → AllByRecursion (λ y. same x y ≡ false) (keys_of es) → list_all (λ e. not (is_id n (num e.1)) || test e.0) es ≡ true → times es ≡ 0
    none_left x t [] apart fit = refl
    none_left x t (e ∷ es) apart fit = go (none_left x t es apart.1 (second_true _ _ fit)) (is_id n (num e.1)) refl (first_true _ _ fit)
      where
        go : times es ≡ 0 → (b : Bool) → is_id n (num e.1) ≡ b → (not b || test e.0) ≡ true → times (e ∷ es) ≡ 0
        go rest true h f = let wrong : true ≡ false = sym (joins x e.0 t f) ∙ apart.0 in absurd cc
        go rest false h f = omega (arith, times_more e es, given_no n (num e.1) h, rest)

    -- a number that is found, and stands under fitting keys alone, stands once
    pub fit_once : (es : List (K × V)) → IsDistinct same (keys_of es) → list_all (λ e. not (is_id n (num e.1)) || test e.0) es ≡ true → is_found es ≡ true → times es ≡ 1
    unfolding IsDistinct
    fit_once [] apart fit found = let wrong : ⊥ = cc in absurd wrong
    fit_once (x ∷ xs) apart fit found = go (fit_once xs apart.1 (second_true _ _ fit)) (test x.0) refl found (first_true _ _ fit)
      where
        go : (is_found xs ≡ true → times xs ≡ 1) → (b : Bool) → test x.0 ≡ b → is_id n (option_and_then num (cond b (Some x.1) (lookup test xs))) ≡ true → (not (is_id n (num x.1)) || b) ≡ true
            → times (x ∷ xs) ≡ 1
        go rest true t f h = omega (arith, times_more x xs, given_yes n (num x.1) f, none_left x.0 t xs apart.0 (second_true _ _ fit))
        go rest false t f h = omega (arith, times_more x xs, given_no n (num x.1) (unfit (is_id n (num x.1)) h), rest f)
          where
            unfit : (b : Bool) → (not b || false) ≡ true → b ≡ false
            unfit true h = sym h
            unfit false h = refl

pub place_of_found : {X : Type 0} (p : X → Bool) (xs : List X) (x : X) → find p xs ≡ Some x → (q : ℕ) × (slice_get xs q ≡ Some x) × (p x ≡ true)
place_of_found p [] x e = no_some x e
place_of_found p (y ∷ ys) x e = go (place_of_found p ys x) (p y) refl e
  where
    go : (find p ys ≡ Some x → (q : ℕ) × (slice_get ys q ≡ Some x) × (p x ≡ true)) → (b : Bool) → p y ≡ b → cond b (Some y) (find p ys) ≡ Some x → (q : ℕ) × (slice_get (y ∷ ys) q ≡ Some x)
        × (p x ≡ true)
    go rest true h f = (0, f, subst (λ z. p z ≡ true) (some_same y x f) h)
    go rest false h f = let more = rest f in (suc more.0, more.1, more.2)

pub none_found : {X : Type 0} (p q : X → Bool) → ((x : X) → p x ≡ not (q x)) → (xs : List X) → find p xs ≡ None → list_all q xs ≡ true
none_found p q same [] e = refl
none_found p q same (x ∷ xs) e = go (none_found p q same xs) (q x) refl (ap (λ b. cond b (Some x) (find p xs)) (sym (same x)) ∙ e)
  where
    go : (find p xs ≡ None → list_all q xs ≡ true) → (b : Bool) → q x ≡ b → cond (not (q x)) (Some x) (find p xs) ≡ None → (q x && list_all q xs) ≡ true
    go rest true h f = ap (λ b. b && list_all q xs) h ∙ rest (sym (ap (λ b. cond (not b) (Some x) (find p xs)) h) ∙ f)
    go rest false h f = no_some x (sym f ∙ ap (λ b. cond (not b) (Some x) (find p xs)) h)
