-- A walk that lists each interface where it is first used, and none twice.
use Rattle.std.proofs.Common.{rules as std_rules, ◌≡◌, refl, sym, ap, subst, ◌∙◌, ℕ, Bool, true, false, ◌&&◌, ◌||◌, not, ◌==◌, T, eqb→eq, map, List, [], ◌∷◌, ◌++◌, filter, arith}
use Rattle.std.proofs.lemmas.Bool.Decides.{nat_tests}
use Rattle.wit_model.specs.{Uses.once, DirectDeps.number_of_interface, DirectDeps.yet_unlisted}
use Rattle.wit_model.specs.declared.model.InterfaceId.{InterfaceId}

-- one filter after another
filter_twice : (p q : ℕ → Bool) (ns : List ℕ) → filter p (filter q ns) ≡ filter (λ m. q m && p m) ns
filter_twice p q [] = refl
filter_twice p q (n ∷ ns) = search (std_rules, filter_twice p q ns)

same_filter : (p q : ℕ → Bool) → ((m : ℕ) → p m ≡ q m) → (ns : List ℕ) → filter p ns ≡ filter q ns
same_filter p q same ns = ap (λ test. filter test ns) (λ i m. same m i)

-- what doesn't pass isn't missed
unlisted-skip : (p : ℕ → Bool) (n : ℕ) → p n ≡ false → (ns : List ℕ) → filter p (once (n ∷ ns)) ≡ filter p (once ns)
unlisted-skip p n fails ns = search (std_rules, filter_twice, same_filter)

-- what passes stands in front, and passes no longer
unlisted-take : (p q : ℕ → Bool) (n : ℕ) → p n ≡ true → ((m : ℕ) → q m ≡ (not (m == n) && p m)) → (ns : List ℕ) → filter p (once (n ∷ ns)) ≡ n ∷ filter q (once ns)
unlisted-take p q n passes less ns = search (std_rules, filter_twice, same_filter)

module _ (own : ℕ) (held : ℕ → Bool) (n : ℕ) where
  -- the user itself, and what is listed already, add nothing
  pub own_skipped : (n == own) ≡ true → (rest : List ℕ) → yet_unlisted own held rest ≡ yet_unlisted own held (n ∷ rest)
  own_skipped h rest = sym (unlisted-skip (λ m. not (m == own) && not (held m)) n (ap (λ b. not b && not (held n)) h) rest)

  pub listed_skipped : (after : ℕ → Bool) → held n ≡ true → ((q : ℕ) → after q ≡ ((n == q) || held q)) → (rest : List ℕ) → yet_unlisted own after rest ≡ yet_unlisted own held (n ∷ rest)
  listed_skipped after h marked rest = ap (λ test. yet_unlisted own test rest) (λ i q. (marked q ∙ same q (n == q) refl) i)
      ∙ sym (unlisted-skip (λ m. not (m == own) && not (held m)) n (ap (λ b. not (n == own) && not b) h ∙ and_false (not (n == own))) rest)
    where
      and_false : (b : Bool) → (b && false) ≡ false
      and_false true = refl
      and_false false = refl

      same : (q : ℕ) (b : Bool) → (n == q) ≡ b → (b || held q) ≡ held q
      same q true e = sym (ap held (sym (eqb→eq n q (subst T (sym e) tt))) ∙ h)
      same q false e = refl

  -- another that isn't listed stands in front
  pub new_listed : (after : ℕ → Bool) → (n == own) ≡ false → held n ≡ false → ((q : ℕ) → after q ≡ ((n == q) || held q)) → (rest : List ℕ)
      → n ∷ yet_unlisted own after rest ≡ yet_unlisted own held (n ∷ rest)
  new_listed after other fresh marked rest = sym (unlisted-take (λ m. not (m == own) && not (held m)) (λ m. not (m == own) && not (after m)) n (λ i. not (other i) && not (fresh i)) less rest)
    where
      turned : (m : ℕ) → (n == m) ≡ (m == n)
      turned m = grind (arith, nat_tests)

      apart : (a b h : Bool) → (a && not (b || h)) ≡ (not b && (a && not h))
      apart true true h = refl
      apart false true h = refl
      apart true false h = refl
      apart false false h = refl

      less : (m : ℕ) → (not (m == own) && not (after m)) ≡ (not (m == n) && (not (m == own) && not (held m)))
      less m = ap (λ b. not (m == own) && not b) (marked m ∙ ap (λ b. b || held m) (turned m)) ∙ apart (not (m == own)) (m == n) (held m)

pub pushed_first : (deps : List InterfaceId) (id : InterfaceId) (rest : List ℕ) → map number_of_interface (deps ++ id ∷ []) ++ rest ≡ map number_of_interface deps ++ (id.0 ∷ rest)
pushed_first [] id rest = refl
pushed_first (d ∷ deps) id rest = ap (λ ns. d.0 ∷ ns) (pushed_first deps id rest)
