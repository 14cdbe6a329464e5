-- What is listed in order is what is reached: each once, behind what it uses, and used by a later one.
use Rattle.std.proofs.Common.{rules as std_rules, ◌≡◌, ◌⊎◌, inl, inr, refl, sym, ap, subst, ◌∙◌, ℕ, zero, suc, ◌<◌, arith, Bool, true, false, ◌||◌, ◌==◌, List, [], ◌∷◌, ◌++◌}
use Rattle.std.proofs.lemmas.{Bool.eqb-true, Bool.eq-eqb, Bool.or_left, Bool.or_right, List.append-nil, List.append_assoc}
use Rattle.std.proofs.lemmas.List.Elements.{Contains-append_left, Contains-append_right, Contains-append_cases}
use Rattle.std.specs.{Prelude.if◌then◌else◌, Prelude.fold, List.AllByRecursion, List.Contains, List.IsDistinct}
use Rattle.wit_model.specs.declared.model.Resolve.{Resolve}
use Rattle.wit_model.specs.{Uses.has, Uses.direct_deps, Valid.IsValid}
use Rattle.wit_model.proofs.{Chains.uses_fall, Elements.has-contains, Elements.contains-has}
use Rattle.encode_shown.specs.Views.{AreReached, AreUsed, UseEarlier}
use Rattle.encode_reach.specs.Reach.{add, listed_with, reached_in_order}
use Rattle.encode_reach.proofs.Fuel.{not-among-uses}
use Rattle.base_lemmas.proofs.Elements.{contains-one}

-- ---- numbers that differ

distinct-more : (ns : List ℕ) (n : ℕ) → has ns n ≡ false → IsDistinct (λ a b. a == b) ns → IsDistinct (λ a b. a == b) (ns ++ n ∷ [])
unfolding IsDistinct
distinct-more [] n h d = (tt, tt)
distinct-more (m ∷ ns) n h d = (at-end ns d.0 (neither (m == n) (has ns n) h).0, distinct-more ns n (neither (m == n) (has ns n) h).1 d.1)
  where
    neither : (a b : Bool) → (a || b) ≡ false → (a ≡ false) × (b ≡ false)
    neither true b e = absurd cc
    neither false b e = (refl, e)

    at-end : (xs : List ℕ) → AllByRecursion (λ y. (m == y) ≡ false) xs → (m == n) ≡ false → AllByRecursion (λ y. (m == y) ≡ false) (xs ++ n ∷ [])
    at-end [] a e = (e, tt)
    at-end (x ∷ xs) a e = (a.0, at-end xs a.1 e)

module _ (r : Resolve) where
  -- ---- lists behind one another

  earlier-more : (e xs ys : List ℕ) → UseEarlier r e xs → UseEarlier r (e ++ xs) ys → UseEarlier r e (xs ++ ys)
  earlier-more e [] ys a b = subst (λ k. UseEarlier r k ys) (append-nil e) b
  earlier-more e (x ∷ xs) ys a b = (a.0, earlier-more (e ++ x ∷ []) xs ys a.1 (subst (λ k. UseEarlier r k ys) (sym (append_assoc e (x ∷ []) xs)) b))

  used-more : (xs ys : List ℕ) (last : ℕ) → AreUsed r xs last → AreUsed r ys last → AreUsed r (xs ++ ys) last
  used-more [] ys last a b = b
  used-more (x ∷ xs) ys last a b = ((a.0.0, wider (Contains-append_cases xs (last ∷ []) a.0.0 a.0.1), a.0.2), used-more xs ys last a.1 b)
    where
      wider : (Contains xs a.0.0 ⊎ Contains (last ∷ []) a.0.0) → Contains ((xs ++ ys) ++ last ∷ []) a.0.0
      wider (inl c) = Contains-append_left (xs ++ ys) (last ∷ []) a.0.0 (Contains-append_left xs ys a.0.0 c)
      wider (inr c) = Contains-append_right (xs ++ ys) (last ∷ []) a.0.0 c

  -- what the last one of these uses, with that, is used where that is
  used-through : (xs : List ℕ) (n user : ℕ) → AreUsed r xs n → has (direct_deps r user) n ≡ true → AreUsed r (xs ++ n ∷ []) user
  used-through [] n user a h = ((user, contains-one user, has-contains (direct_deps r user) n h), tt)
  used-through (x ∷ xs) n user a h = ((a.0.0, Contains-append_left (xs ++ n ∷ []) (user ∷ []) a.0.0 a.0.1, a.0.2), used-through xs n user a.1 h)

  -- ---- what is listed with an interface, or with several

  -- behind what is listed, as an interface that uses all of these asks for
  record Lists (ns : List ℕ) (user : ℕ) (old new : List ℕ) : Type 0 where
    more : List ℕ
    is : new ≡ old ++ more
    stand : (n : ℕ) → has ns n ≡ true → Contains new n
    earlier : UseEarlier r old more
    used : AreUsed r more user
    once : IsDistinct (λ a b. a == b) old → IsDistinct (λ a b. a == b) new

  nothing-more : (n user : ℕ) (old : List ℕ) → has old n ≡ true → Lists (n ∷ []) user old old
  nothing-more n user old there = search (std_rules, append-nil, has-contains, eqb-true)

  both : (n : ℕ) (ns : List ℕ) (user : ℕ) (old mid new : List ℕ) → Lists (n ∷ []) user old mid → Lists ns user mid new → Lists (n ∷ ns) user old new
  both n ns user old mid new a b =
      let whole : new ≡ old ++ (a.more ++ b.more) = b.is ∙ (ap (λ k. k ++ b.more) a.is ∙ append_assoc old a.more b.more) in
      record {
        more = a.more ++ b.more;
        is = whole;
        stand = λ m h. stands m (n == m) refl h;
        earlier = earlier-more old a.more b.more a.earlier (subst (λ k. UseEarlier r k b.more) a.is b.earlier);
        used = used-more a.more b.more user a.used b.used;
        once = λ d. b.once (a.once d);
      }
    where
      stands : (m : ℕ) (c : Bool) → (n == m) ≡ c → (c || has ns m) ≡ true → Contains new m
      stands m true e h = subst (λ k. Contains k m) (sym b.is) (Contains-append_left mid b.more m (a.stand m (or_left (n == m) false e)))
      stands m false e h = b.stand m h

  -- all of these in turn, each where it is one that the user uses
  all-listed : (f : List ℕ → ℕ → List ℕ) (user : ℕ) (ns : List ℕ) → ((n : ℕ) → has ns n ≡ true → (l : List ℕ) → Lists (n ∷ []) user l (f l n)) → (l : List ℕ) → Lists ns user l (fold f l ns)
  all-listed f user [] one l = search std_rules
  all-listed f user (n ∷ ns) one l =
      both n ns user l (f l n) (fold f (f l n) ns) (one n (or_left (n == n) (has ns n) (eq-eqb n n refl)) l) (all-listed f user ns (λ m h. one m (or_right (n == m) (has ns m) h)) (f l n))

  -- an interface behind what it uses
  with-itself : (n user : ℕ) (old mid : List ℕ) → has (direct_deps r user) n ≡ true → has mid n ≡ false → Lists (direct_deps r n) n old mid → Lists (n ∷ []) user old (mid ++ n ∷ [])
  with-itself n user old mid uses fresh l = record {
    more = l.more ++ n ∷ [];
    is = ap (λ k. k ++ n ∷ []) l.is ∙ append_assoc old l.more (n ∷ []);
    stand = λ m h. Contains-append_right mid (n ∷ []) m (has-contains (n ∷ []) m h);
    earlier = earlier-more old l.more (n ∷ []) l.earlier ((λ m c. subst (λ k. Contains k m) l.is (l.stand m (contains-has (direct_deps r n) m c))), tt);
    used = used-through l.more n user l.used uses;
    once = λ d. distinct-more mid n fresh (l.once d);
  }

  module _ (v : IsValid r) where
    listed : (k n user : ℕ) → n < k → has (direct_deps r user) n ≡ true → (l : List ℕ) → Lists (n ∷ []) user l (listed_with r k l n)
    unfolding listed_with
    listed zero n user a uses l = absurd (omega (arith, a))
    listed (suc k) n user a uses l =
        by (all-listed (listed_with r k) n (direct_deps r n) (λ m h w. let f = uses_fall r v n m h in listed k m n (omega (arith, a, f)) h w) l) (has l n) refl
      where
        among : List ℕ
        among = fold (listed_with r k) l (direct_deps r n)

        by : Lists (direct_deps r n) n l among → (b : Bool) → has l n ≡ b → Lists (n ∷ []) user l (if b then l else add among n)
        by all true e = nothing-more n user l e
        by all false e =
            let fresh = not-among-uses r v k n l e in
            subst (λ b. Lists (n ∷ []) user l (if b then among else (among ++ n ∷ []))) (sym fresh) (with-itself n user l among uses fresh all)

    -- what is listed in order is reached
    pub in-order : (n : ℕ) → AreReached r n (reached_in_order r n)
    unfolding IsDistinct
    in-order n =
        let l = all-listed (listed_with r n) n (direct_deps r n) (λ m h w. listed n m n (uses_fall r v n m h) h w) [] in
        let more : reached_in_order r n ≡ l.more = l.is in
        record {
          earlier = earlier-more [] (reached_in_order r n) (n ∷ []) (subst (λ k. UseEarlier r [] k) (sym more) l.earlier) ((λ m c. l.stand m (contains-has (direct_deps r n) m c)), tt);
          used = subst (λ k. AreUsed r k n) (sym more) l.used;
          once = distinct-more (reached_in_order r n) n (not-among-uses r v n n [] refl) (l.once tt);
        }
