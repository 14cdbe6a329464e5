-- Numbers fall along uses, so what a chain of uses leads to is reached.
use Rattle.std.proofs.Common.{rules as std_rules, ◌≡◌, refl, sym, ap, ◌∙◌, ℕ, zero, suc, ◌+◌, ◌≤◌, arith, Bool, true, false, ◌||◌, not, ◌==◌, List, [], ◌∷◌, ◌++◌, length, Some}
use Rattle.std.proofs.lemmas.{Bool.eqb-true, Bool.eq-eqb, Bool.ltb-true, Bool.or_left, Bool.or_right, List.Folds.list_any-append, Option.slice_get_within}
use Rattle.std.specs.{Prelude.flat_map, Prelude.nat_lt, List.list_all}
use Rattle.wit_model.specs.declared.model.{Resolve.Resolve, Interface.Interface}
use Rattle.wit_model.specs.{Lookup.interface_at, Valid.IsValid, Valid.owners}
use Rattle.wit_model.specs.{Uses.has, Uses.once, Uses.direct_deps, Uses.reached_in, Chains.Chain, Chains.UsesFall, Chains.ChainsReach, Chains.ReachedByChains}
use Rattle.wit_model.proofs.{Entries.each_from_at, Owners.all_once}
use Rattle.base_lemmas.proofs.{Bools.left_of as first_true, Bools.right_of as second_true, Elements.not_all as any_by_all}

-- ---- numbers among others

pub has_once : (n : ℕ) (ns : List ℕ) → has (once ns) n ≡ has ns n
has_once n ns = any_by_all (λ m. m == n) (once ns) ∙ ap not (all_once (λ m. not (m == n)) ns) ∙ sym (any_by_all (λ m. m == n) ns)

pub has_flat : (f : ℕ → List ℕ) (n m : ℕ) (ns : List ℕ) → has ns n ≡ true → has (f n) m ≡ true → has (flat_map f ns) m ≡ true
has_flat f n m [] h g = absurd cc
has_flat f n m (x ∷ ns) h g = list_any-append (λ k. k == m) (f x) (flat_map f ns) ∙ by (λ k. has_flat f n m ns k g) (x == n) refl
  where
    by : (has ns n ≡ true → has (flat_map f ns) m ≡ true) → (b : Bool) → (x == n) ≡ b → (has (f x) m || has (flat_map f ns) m) ≡ true
    by rest true e = or_left (has (f x) m) _ (ap (λ k. has (f k) m) (eqb-true x n e) ∙ g)
    by rest false e = or_right (has (f x) m) _ (rest (sym (ap (λ b. b || has ns n) e) ∙ h))

flat_has : (f : ℕ → List ℕ) (m : ℕ) (ns : List ℕ) → has (flat_map f ns) m ≡ true → (n : ℕ) × (has ns n ≡ true) × (has (f n) m ≡ true)
flat_has f m [] h = absurd cc
flat_has f m (x ∷ ns) h = by (has (f x) m) refl (flat_has f m ns)
  where
    by : (b : Bool) → has (f x) m ≡ b → (has (flat_map f ns) m ≡ true → (n : ℕ) × (has ns n ≡ true) × (has (f n) m ≡ true)) → (n : ℕ) × (has (x ∷ ns) n ≡ true) × (has (f n) m ≡ true)
    by true e more = (x, or_left (x == x) (has ns x) (eq-eqb x x refl), e)
    by false e more =
        let rest = more (sym (ap (λ b. b || has (flat_map f ns) m) e) ∙ (sym (list_any-append (λ k. k == m) (f x) (flat_map f ns)) ∙ h)) in
        (rest.0, or_right (x == rest.0) (has ns rest.0) rest.1, rest.2)

pub all_has : (p : ℕ → Bool) (ns : List ℕ) (n : ℕ) → list_all p ns ≡ true → has ns n ≡ true → p n ≡ true
all_has p [] n all h = absurd cc
all_has p (x ∷ ns) n all h = by (all_has p ns n (second_true (p x) (list_all p ns) all)) (x == n) refl
  where
    by : (has ns n ≡ true → p n ≡ true) → (b : Bool) → (x == n) ≡ b → p n ≡ true
    by more true e = sym (ap p (eqb-true x n e)) ∙ first_true (p x) (list_all p ns) all
    by more false e = more (sym (ap (λ b. b || has ns n) e) ∙ h)

-- ---- uses

-- what is used, by the interface that stands under the number
uses_fall_at : (r : Resolve) → IsValid r → (n : ℕ) (i : Interface) → interface_at r n ≡ Some i → list_all (λ m. nat_lt m n) (direct_deps r n) ≡ true
unfolding owners
uses_fall_at r v n i is = search (std_rules, first_true, second_true, each_from_at)

-- only an interface that stands there uses any
pub user_stands : (r : Resolve) (n m : ℕ) → has (direct_deps r n) m ≡ true → (i : Interface) × (interface_at r n ≡ Some i)
user_stands r n m h = search std_rules

pub uses_fall : UsesFall
uses_fall r v n m h = grind (arith, user_stands, ltb-true, all_has, uses_fall_at)

-- ---- chains

module _ (r : Resolve) where
  stays_in : (ns : List ℕ) (n : ℕ) → has ns n ≡ true → has (once (ns ++ flat_map (direct_deps r) ns)) n ≡ true
  stays_in ns n h = has_once n (ns ++ flat_map (direct_deps r) ns) ∙ (list_any-append (λ k. k == n) ns (flat_map (direct_deps r) ns) ∙ or_left (has ns n) _ h)

  comes_in : (ns : List ℕ) (n m : ℕ) → has ns n ≡ true → has (direct_deps r n) m ≡ true → has (once (ns ++ flat_map (direct_deps r) ns)) m ≡ true
  comes_in ns n m h g = has_once m (ns ++ flat_map (direct_deps r) ns) ∙ (list_any-append (λ k. k == m) ns (flat_map (direct_deps r) ns) ∙ or_right (has ns m) _ (has_flat (direct_deps r) n m ns h g))

  -- a chain of no more uses than there are steps
  reach : (steps : ℕ) (ns : List ℕ) (n k m : ℕ) → has ns n ≡ true → k ≤ steps → Chain r k n m → has (reached_in r steps ns) m ≡ true
  unfolding reached_in
  reach zero ns n zero m h le c = ap (has ns) (sym c) ∙ h
  reach zero ns n (suc k) m h le c = absurd (omega (arith, le))
  reach (suc steps) ns n zero m h le c = reach steps (once (ns ++ flat_map (direct_deps r) ns)) n zero m (stays_in ns n h) (omega arith) c
  reach (suc steps) ns n (suc k) m h le c = reach steps (once (ns ++ flat_map (direct_deps r) ns)) c.0 k m (comes_in ns n c.0 h c.1) (omega (arith, le)) c.2

  -- what is reached in so many steps, a chain leads to
  led_to : (steps : ℕ) (ns : List ℕ) (m : ℕ) → has (reached_in r steps ns) m ≡ true → (n : ℕ) × (k : ℕ) × (has ns n ≡ true) × Chain r k n m
  unfolding reached_in
  led_to zero ns m h = (m, 0, h, refl)
  led_to (suc steps) ns m h =
      let later = led_to steps (once (ns ++ flat_map (direct_deps r) ns)) m h in
      let there = sym (list_any-append (λ k. k == later.0) ns (flat_map (direct_deps r) ns)) ∙ (sym (has_once later.0 (ns ++ flat_map (direct_deps r) ns)) ∙ later.2) in
      by later.0 later.1 later.3 (has ns later.0) refl there
    where
      by : (n k : ℕ) → Chain r k n m → (b : Bool) → has ns n ≡ b → (has ns n || has (flat_map (direct_deps r) ns) n) ≡ true → (o : ℕ) × (j : ℕ) × (has ns o ≡ true) × Chain r j o m
      by n k c true e there = (n, k, e, c)
      by n k c false e there =
          let user = flat_has (direct_deps r) n ns (sym (ap (λ b. b || has (flat_map (direct_deps r) ns) n) e) ∙ there) in
          (user.0, suc k, user.1, (n, user.2, c))

  -- a chain has no more uses than its first number, where numbers fall, and begins at an interface
  short : IsValid r → (k n m : ℕ) → Chain r k n m → k ≤ n
  short v zero n m c = omega arith
  short v (suc k) n m c = let rest = short v k c.0 m c.2 in let one = uses_fall r v n c.0 c.1 in omega (arith, rest, one)

  no_longer : IsValid r → (k n m : ℕ) → Chain r k n m → k ≤ length r.interfaces.items
  no_longer v x n m c = grind (arith, user_stands, slice_get_within, short)

pub reached_by_chains : ReachedByChains
reached_by_chains r ns m h = search (std_rules, led_to, has_once)

pub chains_reach : ChainsReach
chains_reach r v ns n k m h c = reach r (length r.interfaces.items) (once ns) n k m (has_once n ns ∙ h) (no_longer r v k n m c) c
