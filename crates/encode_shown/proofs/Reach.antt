-- Which interfaces are reached: what a chain of uses leads to, and no others.
use Rattle.std.proofs.Common.{rules as std_rules, ◌≡◌, ◌⊎◌, inl, inr, refl, sym, subst, ap, ◌∙◌, ℕ, zero, suc, ◌<◌, ◌≤◌, arith, Bool, true, false, ◌||◌, not, nat_lt, List, [], ◌∷◌, ◌++◌, length, filter, nat_eq}
use Rattle.std.proofs.lemmas.{Bool.both_ways, Bool.eqb-true, Bool.ltb-true, Bool.or_left as or-first, Bool.or_right as or-second, List.Folds.list_any-append}
use Rattle.std.proofs.{lemmas.List.Elements.Contains-append_cases, lemmas.Map.Views.any-filter_same, Math.Logic.⊎_elim}
use Rattle.std.specs.{Prelude.flat_map, List.Contains, List.list_all}
use Rattle.wit_model.proofs.{Elements.none-in, Elements.has-contains, Elements.contains-has, OnePath.interface-passes, Chains.has_flat}
use Rattle.wit_model.specs.declared.model.Resolve.{Resolve}
use Rattle.wit_model.specs.{Lookup.interface_at, Rules.function_stays, Valid.IsValid, Valid.as_interface, Valid.functions_of_interface, Valid.owners}
use Rattle.wit_model.specs.Uses.{has, once, direct_deps, reached_in, reached}
use Rattle.encode_shown.specs.Views.{AreUsed, UseEarlier}
use Rattle.encode_shown.proofs.{Basics.option-cases, Used.contains-flat-from}
use Rattle.base_lemmas.proofs.{Bools.right_of as second_true, Numbers.nat_eq_flip}
use Rattle.base_lemmas.proofs.Elements.{all-contained, contains-later, filter_kept as filter-contains, last_of as one-contained}

-- a chain of so many uses from n to m
abbrev pub Chain : Resolve → ℕ → ℕ → ℕ → Type 0
Chain r zero n m = n ≡ m
Chain r (suc k) n m = (o : ℕ) × (has (direct_deps r n) o ≡ true) × Chain r k o m

pub further : (r : Resolve) (k n m j : ℕ) → Chain r k n m → has (direct_deps r m) j ≡ true → Chain r (suc k) n j
further r zero n m j c h = (j, ap (λ i. has (direct_deps r i) j) c ∙ h, refl)
further r (suc k) n m j c h = (c.0, c.1, further r k c.0 m j c.2 h)

-- what is among them is among them once
filtered : (x n : ℕ) (ns : List ℕ) → nat_eq x n ≡ false → has ns n ≡ true → has (filter (λ m. not (nat_eq m x)) ns) n ≡ true
filtered x n ns apart h = any-filter_same (λ k. nat_eq k n) (λ k. not (nat_eq k x)) true differs ns ∙ h
  where
    differs : (k : ℕ) → nat_eq k n ≡ true → not (nat_eq k x) ≡ true
    differs k e = ap not (ap (λ j. nat_eq j x) (eqb-true k n e) ∙ (nat_eq_flip n x ∙ apart))

has_once : (n : ℕ) (ns : List ℕ) → has ns n ≡ true → has (once ns) n ≡ true
has_once n [] h = h
has_once n (x ∷ ns) h = by (has_once n ns) (nat_eq x n) refl
  where
    by : (has ns n ≡ true → has (once ns) n ≡ true) → (b : Bool) → nat_eq x n ≡ b → has (once (x ∷ ns)) n ≡ true
    by rest true e = or-first (nat_eq x n) _ e
    by rest false e = or-second (nat_eq x n) _ (filtered x n (once ns) e (rest (sym (ap (λ b. b || has ns n) e) ∙ h)))

pub once_from : (n : ℕ) (ns : List ℕ) → Contains (once ns) n → Contains ns n
once_from n [] c = c
once_from n (x ∷ ns) (zero, l, e) = (0, omega arith, e)
once_from n (x ∷ ns) (suc k, l, e) = contains-later x ns n (once_from n ns (filter-contains (λ m. not (nat_eq m x)) (once ns) n (k, omega (arith, l), e)).0)

module _ (r : Resolve) where
  stays_in : (ns : List ℕ) (n : ℕ) → has ns n ≡ true → has (once (ns ++ flat_map (direct_deps r) ns)) n ≡ true
  stays_in ns n h = has_once n (ns ++ flat_map (direct_deps r) ns) (list_any-append (λ k. nat_eq k n) ns (flat_map (direct_deps r) ns) ∙ or-first (has ns n) _ h)

  comes_in : (ns : List ℕ) (n m : ℕ) → has ns n ≡ true → has (direct_deps r n) m ≡ true → has (once (ns ++ flat_map (direct_deps r) ns)) m ≡ true
  comes_in ns n m h g = search (std_rules, has_once, list_any-append, or-second, has_flat)

  reach : (steps : ℕ) (ns : List ℕ) (n k m : ℕ) → has ns n ≡ true → k ≤ steps → Chain r k n m → has (reached_in r steps ns) m ≡ true
  unfolding reached_in
  reach zero ns n zero m h le c = ap (has ns) (sym c) ∙ h
  reach zero ns n (suc k) m h le c = absurd (omega (arith, le))
  reach (suc steps) ns n zero m h le c = reach steps (once (ns ++ flat_map (direct_deps r) ns)) n zero m (stays_in ns n h) (omega arith) c
  reach (suc steps) ns n (suc k) m h le c = reach steps (once (ns ++ flat_map (direct_deps r) ns)) c.0 k m (comes_in ns n c.0 h c.1) (omega (arith, le)) c.2

  -- a chain is no longer than its first number
  short : ((n m : ℕ) → has (direct_deps r n) m ≡ true → m < n) → (k n m : ℕ) → Chain r k n m → k ≤ n
  short falls zero n m c = omega arith
  short falls (suc k) n m c = let rest = short falls k c.0 m c.2 in let one = falls n c.0 c.1 in omega (arith, rest, one)

  -- numbers fall along the uses of a valid `Resolve`
  deps-fall : IsValid r → (n m : ℕ) → has (direct_deps r n) m ≡ true → m < n
  unfolding owners
  deps-fall v n m h = option-cases (interface_at r n)
      (λ e. absurd (both_ways _ (ap (λ o. has (filter (λ m. not (nat_eq m n)) (once (Rattle.std.specs.Option.option_map_or (Rattle.wit_model.specs.Uses.interfaces_used_by r) o []))) m) e) h))
      (λ i e. ltb-true m n (all-contained (λ m. nat_lt m n) (direct_deps r n) m
      (second_true (list_all (function_stays r (as_interface n)) (functions_of_interface i)) _ (interface-passes owners r v.rules.owners n i e)) (has-contains (direct_deps r n) m h)))

  -- what a chain from one of these leads to is reached
  pub chain-reached : IsValid r → (ns : List ℕ) (s k m : ℕ) → Contains ns s → s < length r.interfaces.items → Chain r k s m → Contains (reached r ns) m
  chain-reached v ns s k m h within c = search (std_rules, short, deps-fall, has-contains, reach, has_once, contains-has)

  -- What holds of these, and with an interface of all that it uses, holds of all that is reached.
  module _ (P : ℕ → Type 0) (closed : (n m : ℕ) → P n → Contains (direct_deps r n) m → P m) where
    holds-in : (steps : ℕ) (ns : List ℕ) → ((n : ℕ) → Contains ns n → P n) → (m : ℕ) → Contains (reached_in r steps ns) m → P m
    unfolding reached_in
    holds-in zero ns all m c = all m c
    holds-in (suc steps) ns all m c = holds-in steps (once (ns ++ flat_map (direct_deps r) ns))
        (λ n d. ⊎_elim (all n) (λ d. let from = contains-flat-from (direct_deps r) ns n d in closed from.0 n (all from.0 from.1) from.2)
        (Contains-append_cases ns (flat_map (direct_deps r) ns) n (once_from n (ns ++ flat_map (direct_deps r) ns) d))) m c

    pub holds-reached : (ns : List ℕ) → ((n : ℕ) → Contains ns n → P n) → (m : ℕ) → Contains (reached r ns) m → P m
    holds-reached ns all m c = holds-in (length r.interfaces.items) (once ns) (λ n d. all n (once_from n ns d)) m c

  -- ---- lists of what an interface reaches

  -- a chain from the last leads to each
  pub used-chain : (ns : List ℕ) (last : ℕ) → AreUsed r ns last → (m : ℕ) → Contains (ns ++ last ∷ []) m → (k : ℕ) × Chain r k last m
  used-chain [] last used m c = (0, one-contained last m c)
  used-chain (n ∷ ns) last used m (suc k, l, e) = used-chain ns last used.1 m (k, omega (arith, l), e)
  used-chain (n ∷ ns) last used m (zero, l, e) =
      let before = used-chain ns last used.1 used.0.0 used.0.1 in
      (suc before.0, further r before.0 last used.0.0 m before.1 (subst (λ (j : ℕ). has (direct_deps r used.0.0) j ≡ true) e (contains-has (direct_deps r used.0.0) n used.0.2)))

  -- what one of these uses stands among them, or earlier
  pub earlier-used : (earlier ns : List ℕ) → UseEarlier r earlier ns → (n m : ℕ) → Contains ns n → Contains (direct_deps r n) m → Contains earlier m ⊎ Contains ns m
  earlier-used earlier [] u n m c d = none-in n c
  earlier-used earlier (x ∷ ns) u n m (zero, l, e) d = inl (u.0 m (subst (λ (j : ℕ). Contains (direct_deps r j) m) (sym e) d))
  earlier-used earlier (x ∷ ns) u n m (suc k, l, e) d = ⊎_elim (λ c. ⊎_elim inl (λ c. inr (0, omega arith, one-contained x m c)) (Contains-append_cases earlier (x ∷ []) m c))
      (λ c. inr (contains-later x ns m c)) (earlier-used (earlier ++ x ∷ []) ns u.1 n m (k, omega (arith, l), e) d)
