-- A table that grows by pairs.
use Rattle.std.proofs.Common.{rules as std_rules, ◌≡◌, sym, ap, subst, ◌∙◌, ℕ, zero, suc, ◌+◌, ◌<◌, true, ◌&&◌, nat_eq, List, [], ◌∷◌, ◌++◌, take, length, get_or, arith, inl, inr, append_assoc}
use Rattle.std.proofs.{lemmas.Bool.eqb-true, lemmas.List.take_more, lemmas.List.Elements.Contains-append_left, lemmas.List.Elements.Contains-append_right}
use Rattle.std.specs.List.{AllZip, Contains}
use Rattle.wit_model.specs.declared.model.«Type».{«Type» as ValueType}
use Rattle.compat_meaning.specs.{Walk.Pair, Walk.pairs_at, Table.Joined, Table.Apart, Table.SomeApart, Table.Grows}
use Rattle.wit_model.proofs.Elements.{zip-push}
use Rattle.compat_meaning.proofs.Either.{of_two}
use Rattle.base_lemmas.proofs.{Bools.left_of as first_true, Bools.right_of as second_true, Elements.zip-kept}

pub same_pair : (p q : Pair) → (nat_eq p.0 q.0 && nat_eq p.1 q.1) ≡ true → p ≡ q
same_pair p q h = let a = eqb-true p.0 q.0 (first_true _ _ h) in let b = eqb-true p.1 q.1 (second_true _ _ h) in λ i. (a i, b i)

-- ---- lists that grow

pub grows_more : (a b c d e : List Pair) → Grows a b e → Grows b c d → ((p : Pair) → Contains d p → Contains e p) → Grows a c e
grows_more a b c d e g h k = record {
  added = g.added ++ h.added;
  is = h.is ∙ ap (λ x. x ++ h.added) g.is ∙ append_assoc a g.added h.added;
  each = λ p x. of_two g.added h.added p (g.each p) (λ y. k p (h.each p y)) x;
}

pub grows_keeps : (a b c : List Pair) → Grows a b c → (p : Pair) → Contains a p → Contains b p
grows_keeps a b c g p h = subst (λ (ps : List Pair). Contains ps p) (sym g.is) (Contains-append_left a g.added p h)

joined_kept : (heads : List ValueType) (a b c : List Pair) → Grows a b c → (t u : ValueType) → Joined heads a t u → Joined heads b t u
joined_kept heads a b c g t u (inl x) = inl x
joined_kept heads a b c g t u (inr (n, m, en, em, h)) = inr (n, m, en, em, grows_keeps a b c g (n, m) h)

pub all_joined_kept : (heads : List ValueType) (a b c : List Pair) → Grows a b c → (ts us : List ValueType) → AllZip (Joined heads a) ts us → AllZip (Joined heads b) ts us
all_joined_kept heads a b c g ts us z = zip-kept (Joined heads a) (Joined heads b) (joined_kept heads a b c g) ts us z

-- ---- one place more

module _ (heads : List ValueType) where
  pub joined_more : (keys : List Pair) (ts us : List ValueType) (i : ℕ) (t u : ValueType) → i < length ts → i < length us → t ≡ get_or ts i t → u ≡ get_or us i u
      → AllZip (Joined heads keys) (take i ts) (take i us) → Joined heads keys t u → AllZip (Joined heads keys) (take (i + 1) ts) (take (i + 1) us)
  joined_more keys ts us i t u lt lu et eu z j =
      let a : take (i + 1) ts ≡ take i ts ++ t ∷ [] = take_more ts i t lt ∙ ap (λ x. take i ts ++ x ∷ []) (sym et) in
      let b : take (i + 1) us ≡ take i us ++ u ∷ [] = take_more us i u lu ∙ ap (λ x. take i us ++ x ∷ []) (sym eu) in
      subst (λ (xs : List ValueType). AllZip (Joined heads keys) xs (take (i + 1) us)) (sym a)
      (subst (λ (ys : List ValueType). AllZip (Joined heads keys) (take i ts ++ t ∷ []) ys) (sym b) (zip-push (Joined heads keys) (take i ts) (take i us) t u z j))

  pub place_pairs : (ts us : List ValueType) (i : ℕ) (t u : ValueType) → i < length ts → i < length us → t ≡ get_or ts i t → u ≡ get_or us i u
      → (p : Pair) → Contains (pairs_at heads (t ∷ []) (u ∷ [])) p → Contains (pairs_at heads ts us) p
  place_pairs (x ∷ xs) (y ∷ ys) zero t u lt lu et eu p c = search std_rules
  place_pairs (x ∷ xs) (y ∷ ys) (suc i) t u lt lu et eu p c = Contains-append_right _ _ p (place_pairs xs ys i t u (omega (arith, lt)) (omega (arith, lu)) et eu p c)
  place_pairs _ _ i t u lt lu et eu p c = absurd (omega (arith, lt, lu))

  pub apart_at : (ts us : List ValueType) (i : ℕ) (t u : ValueType) → i < length ts → i < length us → t ≡ get_or ts i t → u ≡ get_or us i u → Apart heads t u → SomeApart heads ts us
  apart_at (x ∷ xs) (y ∷ ys) zero t u lt lu et eu a = inl (subst (λ z. Apart heads x z) eu (subst (λ z. Apart heads z u) et a))
  apart_at (x ∷ xs) (y ∷ ys) (suc i) t u lt lu et eu a = inr (apart_at xs ys i t u (omega (arith, lt)) (omega (arith, lu)) et eu a)
  apart_at _ _ i t u lt lu et eu a = absurd (omega (arith, lt, lu))
