-- Lists of the same entries make the same finite map, where a name has one meaning.
use Rattle.std.proofs.{Common.◌≡◌, Common.sym, Common.ap, Common.◌∙◌, Common.List, Common.Some, lemmas.Cmp.nat_list_cmp_total}
use Rattle.std.specs.List.{Contains}
use Rattle.std.specs.FinMap.{find, from_entries, get-from_entries, same_map, slice_cmp-IsAntisymmetric, nat_cmp-IsAntisymmetric}
use Rattle.wit_model.specs.Text.{Text, TextMap, text_cmp}
use Rattle.wit_model.proofs.{AnyOrder.found-there, Maps.there_some as found-some}
use Rattle.encode_shown.proofs.Basics.{option-cases}

module _ {X : Type 0} where
  abbrev as_map : List (Text × X) → TextMap X
  as_map xs = from_entries xs

  module _ (es fs : List (Text × X)) (forth : (q : Text) (x : X) → Contains es (q, x) → Contains fs (q, x)) (back : (q : Text) (x : X) → Contains fs (q, x) → Contains es (q, x))
      (one : (q : Text) (x y : X) → Contains fs (q, x) → Contains fs (q, y) → x ≡ y) where
    same-found : (q : Text) → find text_cmp q es ≡ find text_cmp q fs
    same-found q = option-cases (find text_cmp q es) (λ e. option-cases (find text_cmp q fs) (λ f. e ∙ sym f)
        (λ y f. absurd (let some = (found-some es q y (back q y (found-there fs q y f))).1 in cc))) (λ x e.
        let c = forth q x (found-there es q x e) in
        let y = found-some fs q x c in
        e ∙ ap Some (one q x y.0 c (found-there fs q y.0 y.1)) ∙ sym y.1)

    pub same-entries : as_map es ≡ as_map fs
    same-entries = same_map nat_list_cmp_total (slice_cmp-IsAntisymmetric nat_cmp-IsAntisymmetric) (as_map es) (as_map fs)
        (λ q. get-from_entries nat_list_cmp_total es q ∙ (same-found q ∙ sym (get-from_entries nat_list_cmp_total fs q)))
