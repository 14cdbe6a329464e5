-- Numbers that stand for marks of a list, each once: they are as many as the marks exactly where each mark's number is among them.
use Rattle.std.proofs.Common.{rules as std_rules, ◌≡◌, refl, sym, ap, ◌∙◌, ℕ, zero, suc, ◌+◌, ◌<◌, ◌≤◌, arith, Bool, true, false, ◌&&◌, ◌||◌, cond, eqb, List, [], ◌∷◌, ◌++◌, length, map, Some, length-append}
use Rattle.std.proofs.lemmas.{Bool.eqb-true, Bool.eq-eqb, Bool.ne_eqb, Bool.false_from_ne_true as absent, List.Folds.list_any-append, Option.slice_get_within}
use Rattle.std.specs.{Prelude.slice_get, List.list_any}
use Rattle.base_lemmas.proofs.Bools.{both_ways, or_false as or_none, right_of as second_true}

-- how many marks there are
abbrev pub marks : List Bool → ℕ
marks [] = 0
marks (true ∷ fs) = suc (marks fs)
marks (false ∷ fs) = marks fs

-- the marks of a list each of whose places is one
pub true_mark : {A : Type 0} (xs : List A) (n : ℕ) → n < length xs → slice_get (map (λ _. true) xs) n ≡ Some true
true_mark [] n h = absurd (omega (arith, h))
true_mark (x ∷ xs) zero h = refl
true_mark (x ∷ xs) (suc n) h = true_mark xs n (omega (arith, h))

pub all_marked : {A : Type 0} (xs : List A) → marks (map (λ _. true) xs) ≡ length xs
all_marked [] = refl
all_marked (x ∷ xs) = ap suc (all_marked xs)

same_number : (a b : ℕ) → eqb (suc a) (suc b) ≡ eqb a b
same_number a b = both_ways (eqb (suc a) (suc b)) (eqb a b) (λ e. let same = eqb-true (suc a) (suc b) e in eq-eqb a b (omega (arith, same))) (λ e. eq-eqb (suc a) (suc b) (ap suc (eqb-true a b e)))

module _ {A : Type 0} (key : A → ℕ) where
  -- how many marks have their number among these, where the first mark has the number n
  abbrev pub taken : List A → ℕ → List Bool → ℕ
  taken xs n [] = 0
  taken xs n (true ∷ fs) = cond (list_any (λ x. eqb (key x) n) xs) (suc (taken xs (suc n) fs)) (taken xs (suc n) fs)
  taken xs n (false ∷ fs) = taken xs (suc n) fs

  -- each mark has its number among these
  abbrev pub all_taken : List A → ℕ → List Bool → Bool
  all_taken xs n [] = true
  all_taken xs n (true ∷ fs) = list_any (λ x. eqb (key x) n) xs && all_taken xs (suc n) fs
  all_taken xs n (false ∷ fs) = all_taken xs (suc n) fs

  -- The numbers are those of marks, each once.
  pub record Counted (xs : List A) (fs : List Bool) : Type 0 where
    pub below : (n : ℕ) → list_any (λ x. eqb (key x) n) xs ≡ true → n < length fs
    pub count : length xs ≡ taken xs 0 fs

  among_more : (xs : List A) (x : A) (n : ℕ) → list_any (λ y. eqb (key y) n) (xs ++ x ∷ []) ≡ (list_any (λ y. eqb (key y) n) xs || eqb (key x) n)
  among_more xs x n = list_any-append (λ y. eqb (key y) n) xs (x ∷ []) ∙ ap (λ b. list_any (λ y. eqb (key y) n) xs || b) (or_none (eqb (key x) n))

  -- those with one more
  abbrev HasOneMore : List A → A → List A → Type 0
  HasOneMore xs x zs = (n : ℕ) → list_any (λ y. eqb (key y) n) zs ≡ (list_any (λ y. eqb (key y) n) xs || eqb (key x) n)

  among_other : (xs : List A) (x : A) (zs : List A) → HasOneMore xs x zs → (n : ℕ) → (key x ≡ n → ⊥) → list_any (λ y. eqb (key y) n) zs ≡ list_any (λ y. eqb (key y) n) xs
  among_other xs x zs more n differ = more n ∙ ap (λ b. list_any (λ y. eqb (key y) n) xs || b) (ne_eqb (key x) n differ) ∙ or_none (list_any (λ y. eqb (key y) n) xs)

  -- ---- one more mark, whose number is none of these

  taken_mark : (xs : List A) (n m : ℕ) (fs : List Bool) (f : Bool) → m ≡ n + length fs → list_any (λ x. eqb (key x) m) xs ≡ false → taken xs n (fs ++ f ∷ []) ≡ taken xs n fs
  taken_mark xs n m [] true e h = let here : m ≡ n = omega (arith, e) in rw (sym (ap (λ k. list_any (λ x. eqb (key x) k) xs) here) ∙ h) refl
  taken_mark xs n m [] false e h = refl
  taken_mark xs n m (true ∷ fs) f e h = ap (λ k. cond (list_any (λ x. eqb (key x) n) xs) (suc k) k) (taken_mark xs (suc n) m fs f (omega (arith, e)) h)
  taken_mark xs n m (false ∷ fs) f e h = taken_mark xs (suc n) m fs f (omega (arith, e)) h

  -- ---- one more number

  taken_past : (xs : List A) (x : A) (zs : List A) → HasOneMore xs x zs → (n : ℕ) (fs : List Bool) → key x < n → taken zs n fs ≡ taken xs n fs
  taken_past xs x zs more n [] h = refl
  taken_past xs x zs more n (true ∷ fs) h = search (std_rules, among_other, taken_past xs x zs more (suc n) fs (omega (arith, h)))
  taken_past xs x zs more n (false ∷ fs) h = taken_past xs x zs more (suc n) fs (omega (arith, h))

  one_more : (b : Bool) (k : ℕ) → cond b (suc (suc k)) (suc k) ≡ suc (cond b (suc k) k)
  one_more x k = search std_rules

  taken_more : (xs : List A) (x : A) (zs : List A) → HasOneMore xs x zs → (n k : ℕ) (fs : List Bool) → key x ≡ n + k → list_any (λ y. eqb (key y) (key x)) xs ≡ false → slice_get fs k ≡ Some true
      → taken zs n fs ≡ suc (taken xs n fs)
  taken_more xs x zs more n zero (true ∷ fs) e new h = search (std_rules, eq-eqb, taken_past)
  taken_more xs x zs more n (suc k) (true ∷ fs) e new h = search (std_rules, among_other, one_more, taken_more xs x zs more (suc n) k fs (omega (arith, e)) new h)
  taken_more xs x zs more n (suc k) (false ∷ fs) e new h = taken_more xs x zs more (suc n) k fs (omega (arith, e)) new h
  taken_more xs x zs more n _ _ e new h = absurd cc

  -- ---- what is kept

  pub one_mark_more : (xs : List A) (fs : List Bool) (f : Bool) → Counted xs fs → Counted xs (fs ++ f ∷ [])
  one_mark_more xs fs f c = search (std_rules, length-append, taken_mark, absent)

  grown : (xs : List A) (x : A) (zs : List A) → HasOneMore xs x zs → length zs ≡ suc (length xs) → (fs : List Bool) → Counted xs fs → list_any (λ y. eqb (key y) (key x)) xs ≡ false
      → slice_get fs (key x) ≡ Some true → Counted zs fs
  grown xs x zs more long fs c new h = search (std_rules, taken_more, eqb-true, slice_get_within)

  -- one more number, behind the others or in front of them
  pub one_number_more : (xs : List A) (x : A) (fs : List Bool) → Counted xs fs → list_any (λ y. eqb (key y) (key x)) xs ≡ false → slice_get fs (key x) ≡ Some true → Counted (xs ++ x ∷ []) fs
  one_number_more xs x fs c new h = let long = length-append xs (x ∷ []) in grown xs x (xs ++ x ∷ []) (among_more xs x) (omega (arith, long)) fs c new h

  pub one_number_first : (xs : List A) (x : A) (fs : List Bool) → Counted xs fs → list_any (λ y. eqb (key y) (key x)) xs ≡ false → slice_get fs (key x) ≡ Some true → Counted (x ∷ xs) fs
  one_number_first xs x fs c new h = grown xs x (x ∷ xs) (λ n. (search std_rules)) refl fs c new h

  -- none at all
  taken_none : (n : ℕ) (fs : List Bool) → taken [] n fs ≡ 0
  taken_none n [] = refl
  taken_none n (true ∷ fs) = taken_none (suc n) fs
  taken_none n (false ∷ fs) = taken_none (suc n) fs

  pub no_number : (fs : List Bool) → Counted [] fs
  no_number fs = record { below = λ n h. absurd cc; count = sym (taken_none 0 fs) }

  -- ---- as many as there are marks

  at_most : (xs : List A) (n : ℕ) (fs : List Bool) → taken xs n fs ≤ marks fs
  at_most xs n [] = omega arith
  at_most xs n (true ∷ fs) = search (std_rules, at_most xs (suc n) fs)
  at_most xs n (false ∷ fs) = at_most xs (suc n) fs

  as_many : (xs : List A) (n : ℕ) (fs : List Bool) → eqb (taken xs n fs) (marks fs) ≡ all_taken xs n fs
  as_many xs n [] = refl
  as_many xs n (true ∷ fs) = search (std_rules, same_number, at_most, ne_eqb, as_many xs (suc n) fs)
  as_many xs n (false ∷ fs) = as_many xs (suc n) fs

  -- no more than there are marks, and as many where each mark is taken
  pub no_more : (xs : List A) (fs : List Bool) → Counted xs fs → length xs ≤ marks fs
  no_more xs fs c = let most = at_most xs 0 fs in let many = c.count in omega (arith, most, many)

  pub exact : (xs : List A) (fs : List Bool) → Counted xs fs → eqb (length xs) (marks fs) ≡ all_taken xs 0 fs
  exact xs fs c = ap (λ k. eqb k (marks fs)) c.count ∙ as_many xs 0 fs

  pub taken_at : (xs : List A) (n k : ℕ) (fs : List Bool) → all_taken xs n fs ≡ true → slice_get fs k ≡ Some true → list_any (λ x. eqb (key x) (n + k)) xs ≡ true
  taken_at xs n zero (true ∷ fs) all h = search std_rules
  taken_at xs n (suc k) (true ∷ fs) all h = search (std_rules, second_true, taken_at xs (suc n) k fs (second_true (list_any (λ x. eqb (key x) n) xs) (all_taken xs (suc n) fs) all) h)
  taken_at xs n (suc k) (false ∷ fs) all h = search (std_rules, taken_at xs (suc n) k fs all h)
  taken_at xs n _ _ all h = absurd cc
