-- Entries whose names differ make the same finite map in any order.
use Rattle.std.proofs.Common.{rules as std_rules, ◌≡◌, refl, sym, ap, ◌∙◌, zero, suc, Bool, true, false, cond, List, [], ◌∷◌, map, Option, Some, None, String, unwrap_or, arith}
use Rattle.std.proofs.lemmas.{Cmp.nat_list_cmp_total, Cmp.nat_list_eq_equiv, Map.Text.is_eq-slice_cmp}
use Rattle.std.proofs.lemmas.{Map.Keys.IsDistinct-IsPermutation, List.Sorted.IsPermutation-map, List.Sorted.IsPermutation-sym, List.Sorted.Contains-permutation}
use Rattle.std.specs.{Prelude.IsPermutation, List.Contains, List.AllByRecursion, List.IsDistinct, Ordering.eq_by_cmp, String.string_eq}
use Rattle.std.specs.FinMap.{find, from_entries, get-from_entries, same_map, slice_cmp-IsAntisymmetric, nat_cmp-IsAntisymmetric}
use Rattle.std.specs.declared.alloc.Global.{Global}
use Rattle.wit_model.specs.Text.{Text, TextMap, text_of, text_eq, text_cmp}
use Rattle.base_lemmas.proofs.Elements.{contains-map}
use Rattle.wit_model.proofs.TextLemmas.{text_same as text-same}

pub same-text : (a b : Text) → eq_by_cmp text_cmp a b ≡ text_eq a b
same-text a b = is_eq-slice_cmp a b

apart-from : (t : Text) (ks : List Text) (k : Text) → AllByRecursion (λ y. text_eq t y ≡ false) ks → Contains ks k → text_eq t k ≡ false
apart-from t [] k all (j, l, e) = absurd (omega (arith, l))
apart-from t (x ∷ ks) k all (zero, l, e) = ap (text_eq t) (sym e) ∙ all.0
apart-from t (x ∷ ks) k all (suc j, l, e) = apart-from t ks k all.1 (j, omega (arith, l), e)

module _ {X : Type 0} where
  -- what is found stands there
  pub found-there : (es : List (Text × X)) (q : Text) (x : X) → find text_cmp q es ≡ Some x → Contains es (q, x)
  found-there [] q x h = let wrong : ⊥ = cc in absurd wrong
  found-there (e ∷ es) q x h = go (found-there es q x) (eq_by_cmp text_cmp q e.0) refl h
    where
      go : (find text_cmp q es ≡ Some x → Contains es (q, x)) → (b : Bool) → eq_by_cmp text_cmp q e.0 ≡ b → cond b (Some e.1) (find text_cmp q es) ≡ Some x → Contains (e ∷ es) (q, x)
      go more true t h =
          let key : e.0 ≡ q = sym (text-same q e.0 (sym (same-text q e.0) ∙ t)) in
          let value : e.1 ≡ x = ap (λ o. unwrap_or o x) h in
          (0, omega arith, λ i. (key i, value i))
      go more false t h = let rest = more h in (suc rest.0, (let l = rest.1 in omega arith), rest.2)

  -- what stands there is found, where the names differ
  pub there-found : (es : List (Text × X)) (q : Text) (x : X) → IsDistinct text_eq (map (λ e. e.0) es) → Contains es (q, x) → find text_cmp q es ≡ Some x
  unfolding IsDistinct
  there-found [] q x d (j, l, h) = absurd (omega (arith, l))
  there-found (e ∷ es) q x d (zero, l, h) = search (std_rules, same-text, nat_list_eq_equiv)
  there-found (e ∷ es) q x d (suc j, l, h) =
      let rest : Contains es (q, x) = (j, omega (arith, l), h) in
      let other : text_eq e.0 q ≡ false = apart-from e.0 (map (λ e. e.0) es) q d.0 (contains-map (λ e. e.0) es (q, x) rest) in
      let apart : eq_by_cmp text_cmp q e.0 ≡ false = same-text q e.0 ∙ (nat_list_eq_equiv.symm q e.0 ∙ other) in
      ap (λ b. cond b (Some e.1) (find text_cmp q es)) apart ∙ there-found es q x d.1 rest

  module _ (es fs : List (Text × X)) (p : IsPermutation es fs) (d : IsDistinct text_eq (map (λ e. e.0) es)) where
    pub others-differ : IsDistinct text_eq (map (λ e. e.0) fs)
    others-differ = IsDistinct-IsPermutation text_eq nat_list_eq_equiv.symm (map (λ e. e.0) es) (map (λ e. e.0) fs) (IsPermutation-map (λ e. e.0) es fs p) d

    pub same-found : (q : Text) → find text_cmp q fs ≡ find text_cmp q es
    same-found q = go (find text_cmp q es) refl (find text_cmp q fs) refl
      where
        go : (a : Option X) → find text_cmp q es ≡ a → (b : Option X) → find text_cmp q fs ≡ b → find text_cmp q fs ≡ find text_cmp q es
        go (Some x) e b f = there-found fs q x others-differ (Contains-permutation es fs (q, x) p (found-there es q x e)) ∙ sym e
        go None e None f = f ∙ sym e
        go None e (Some x) f =
            let wrong : None ≡ Some x = sym e ∙ there-found es q x d (Contains-permutation fs es (q, x) (IsPermutation-sym es fs p) (found-there fs q x f)) in
            let z : ⊥ = cc in absurd z

    abbrev as_map : List (Text × X) → TextMap X
    as_map xs = from_entries xs

    -- entries in another order make the same map
    pub same-map : as_map fs ≡ as_map es
    same-map = same_map nat_list_cmp_total (slice_cmp-IsAntisymmetric nat_cmp-IsAntisymmetric) (as_map fs) (as_map es)
        (λ q. get-from_entries nat_list_cmp_total fs q ∙ (same-found q ∙ sym (get-from_entries nat_list_cmp_total es q)))

-- ---- keys

pub distinct-texts : (ks : List (String Global)) → IsDistinct string_eq ks → IsDistinct text_eq (map text_of ks)
unfolding IsDistinct
distinct-texts [] d = tt
distinct-texts (k ∷ ks) d = (apart ks d.0, distinct-texts ks d.1)
  where
    apart : (ls : List (String Global)) → AllByRecursion (λ y. string_eq k y ≡ false) ls → AllByRecursion (λ y. text_eq (text_of k) y ≡ false) (map text_of ls)
    apart [] h = tt
    apart (l ∷ ls) h = (h.0, apart ls h.1)
