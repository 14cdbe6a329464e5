-- Entries that stand more than once, or in another order, make the same map.
use Rattle.std.proofs.Common.{◌≡◌, refl, sym, ap, ◌∙◌, zero, suc, arith, Bool, true, false, cond, List, [], ◌∷◌, Option, Some, None}
use Rattle.std.proofs.lemmas.{Cmp.nat_list_cmp_total, Cmp.nat_list_eq_equiv}
use Rattle.std.specs.{List.Contains, Ordering.eq_by_cmp}
use Rattle.std.specs.FinMap.{find, from_entries, get-from_entries, same_map, slice_cmp-IsAntisymmetric, nat_cmp-IsAntisymmetric}
use Rattle.wit_model.specs.{Text.Text, Text.TextMap, Text.text_cmp, Maps.HaveSameEntries}
use Rattle.wit_model.proofs.AnyOrder.{same-text as same_order, found-there as found_there}

module _ {X : Type 0} where
  pub there_some : (es : List (Text × X)) (q : Text) (x : X) → Contains es (q, x) → (y : X) × (find text_cmp q es ≡ Some y)
  there_some [] q x (j, l, h) = absurd (omega (arith, l))
  there_some (e ∷ es) q x (zero, l, h) =
      let same : eq_by_cmp text_cmp q e.0 ≡ true = ap (λ z. eq_by_cmp text_cmp q z.0) h ∙ (same_order q q ∙ nat_list_eq_equiv.refl q) in
      (e.1, ap (λ b. cond b (Some e.1) (find text_cmp q es)) same)
  there_some (e ∷ es) q x (suc j, l, h) = go (eq_by_cmp text_cmp q e.0) refl (there_some es q x (j, omega (arith, l), h))
    where
      go : (b : Bool) → eq_by_cmp text_cmp q e.0 ≡ b → (y : X) × (find text_cmp q es ≡ Some y) → (y : X) × (find text_cmp q (e ∷ es) ≡ Some y)
      go true t r = (e.1, ap (λ b. cond b (Some e.1) (find text_cmp q es)) t)
      go false t r = (r.0, ap (λ b. cond b (Some e.1) (find text_cmp q es)) t ∙ r.1)

pub one_map : {X : Type 0} (es fs : List (Text × X)) → HaveSameEntries es fs → ◌≡◌ {A = TextMap X} (from_entries es) (from_entries fs)
one_map {X} es fs same = same_map nat_list_cmp_total (slice_cmp-IsAntisymmetric nat_cmp-IsAntisymmetric) (from_entries es) (from_entries fs)
    (λ q. get-from_entries nat_list_cmp_total es q ∙ (same_found q (find text_cmp q es) refl (find text_cmp q fs) refl ∙ sym (get-from_entries nat_list_cmp_total fs q)))
  where
    same_found : (q : Text) (a : Option X) → find text_cmp q es ≡ a → (b : Option X) → find text_cmp q fs ≡ b → find text_cmp q es ≡ find text_cmp q fs
    same_found q (Some x) e (Some y) f =
        let alike : x ≡ y = same.one_value q x y (found_there es q x e) (same.here q y (found_there fs q y f)) in e ∙ (ap Some alike ∙ sym f)
    same_found q None e None f = e ∙ sym f
    same_found q (Some x) e None f =
        let s = there_some fs q x (same.there q x (found_there es q x e)) in
        let wrong : None ≡ Some s.0 = sym f ∙ s.1 in absurd cc
    same_found q None e (Some y) f =
        let s = there_some es q y (same.here q y (found_there fs q y f)) in
        let wrong : None ≡ Some s.0 = sym e ∙ s.1 in absurd cc
