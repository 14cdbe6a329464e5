-- Entries that are copied into a map one behind the other, those that a test passes, where no key stands twice.
use Rattle.std.proofs.Common.{rules as std_rules, ◌≡◌, refl, sym, ap, subst, ◌∙◌, Bool, true, false, List, [], ◌∷◌, ◌++◌, cond, append-nil}
use Rattle.std.proofs.lemmas.{List.append_assoc, List.Elements.filter-append, List.Elements.AllZip-push}
use Rattle.std.specs.{List.filter, List.AllByRecursion, List.AllZip, List.IsDistinct, Map.keys_of}
use Rattle.indexmap.specs.IndexMap.{insert_entry}
use Rattle.indexmap.proofs.MapLemmas.{insert_entry-absent}
use Rattle.bind_copy.specs.Copies.{CopiedSoFar}

-- in a list of keys that differ, each in front differs from the one in the middle
pub at_middle : {K : Type 0} (apart : K → K → Bool) (x k : K) (front rest : List K) → AllByRecursion (λ y. apart x y ≡ false) (front ++ k ∷ rest) → apart x k ≡ false
at_middle apart x k [] rest h = h.0
at_middle apart x k (y ∷ ys) rest h = at_middle apart x k ys rest h.1

keys_append : {K V : Type 0} (xs ys : List (K × V)) → keys_of (xs ++ ys) ≡ keys_of xs ++ keys_of ys
keys_append [] ys = refl
keys_append (x ∷ xs) ys = ap (λ l. x.0 ∷ l) (keys_append xs ys)

module _ {K V : Type 0} (eq apart : K → K → Bool) (R : K × V → K × V → Type 0) (p : K × V → Bool)
    (same : (x y u v : K × V) → R x u → R y v → eq v.0 u.0 ≡ apart x.0 y.0) where
  -- a copy's key is none of those that were copied before
  absent : (front done rest : List (K × V)) (e n : K × V) → R e n → AllZip R (filter p front) done → IsDistinct apart (keys_of (front ++ e ∷ rest))
      → AllByRecursion (λ q. eq n.0 q ≡ false) (keys_of done)
  unfolding IsDistinct
  absent [] [] rest e n r zip d = tt
  absent [] (y ∷ ys) rest e n r zip d = absurd zip
  absent (x ∷ xs) done rest e n r zip d = go (λ ys h. absent xs ys rest e n r h d.1) (p x) done zip
    where
      differs : apart x.0 e.0 ≡ false
      differs = at_middle apart x.0 e.0 (keys_of xs) (keys_of rest) (subst (AllByRecursion (λ y. apart x.0 y ≡ false)) (keys_append xs (e ∷ rest)) d.0)

      go : ((ys : List (K × V)) → AllZip R (filter p xs) ys → AllByRecursion (λ q. eq n.0 q ≡ false) (keys_of ys))
          → (b : Bool) (done : List (K × V)) → AllZip R (cond b (x ∷ filter p xs) (filter p xs)) done → AllByRecursion (λ q. eq n.0 q ≡ false) (keys_of done)
      go more z done zip = search (std_rules, differs)

  module _ (whole rest done : List (K × V)) (e : K × V) (before : CopiedSoFar R p whole (e ∷ rest) done) where
    abbrev front : List (K × V)
    front = before.0

    all : (front ++ e ∷ []) ++ rest ≡ whole
    all = append_assoc front (e ∷ []) rest ∙ before.1

    -- an entry that doesn't pass is left
    pub one_left : p e ≡ false → CopiedSoFar R p whole rest done
    one_left out =
        let none : filter p (e ∷ []) ≡ [] = ap (λ b. cond b (e ∷ []) []) out in
        (front ++ e ∷ [], all, subst (λ l. AllZip R l done) (sym (filter-append p front (e ∷ []) ∙ (ap (λ l. filter p front ++ l) none ∙ append-nil (filter p front)))) before.2)

    -- one that passes goes last
    pub one_copied : (n : K × V) (new : List (K × V)) → IsDistinct apart (keys_of whole) → p e ≡ true → R e n → new ≡ insert_entry eq done n.0 n.1 → CopiedSoFar R p whole rest new
    one_copied n new d in_ r added =
        let last : new ≡ done ++ n ∷ [] = added ∙ insert_entry-absent eq n.0 n.1 done (absent front done rest e n r before.2 (subst (λ l. IsDistinct apart (keys_of l)) (sym before.1) d)) in
        let one : filter p (e ∷ []) ≡ e ∷ [] = ap (λ b. cond b (e ∷ []) []) in_ in (
          front ++ e ∷ [],
          all,
          subst (λ l. AllZip R l new) (sym (filter-append p front (e ∷ []) ∙ ap (λ l. filter p front ++ l) one))
              (subst (λ l. AllZip R (filter p front ++ e ∷ []) l) (sym last) (AllZip-push R (filter p front) done e n before.2 r)),
        )

  -- nothing is left
  pub all_copied : (whole done : List (K × V)) → CopiedSoFar R p whole [] done → AllZip R (filter p whole) done
  all_copied whole done h = subst (λ l. AllZip R (filter p l) done) (sym (append-nil h.0) ∙ h.1) h.2
