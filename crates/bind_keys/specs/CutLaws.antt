-- Keys that are cut at their last slash, found and told apart by their parts.
use Rattle.std.proofs.Common.{◌≡◌, refl, sym, ap, ◌∙◌, Bool, true, false, ◌==◌, ◌&&◌, ◌||◌, [], ◌∷◌, cond}
use mathlib.Core.Bool.{true≢false}
use Rattle.std.proofs.lemmas.{Slice.Eq.bytes_eq-Decides}
use Rattle.wit_model.specs.Text.{Text, text_eq}
use Rattle.bind_keys.specs.Cuts.{front_of, has_slash, name_of, text_under}

-- a key has a slash
pub slash_within : (front name : Text) → has_slash (text_under front name) ≡ true
slash_within [] name = refl
slash_within (b ∷ front) name = by (b == 47) (slash_within front name)
  where
    by : (v : Bool) → has_slash (text_under front name) ≡ true → (v || has_slash (text_under front name)) ≡ true
    by true h = refl
    by false h = h

-- the front of a key that is cut
pub front_is : (front name : Text) → has_slash name ≡ false → front_of (text_under front name) ≡ front
unfolding front_of
front_is [] name bare = ap (λ v. cond v (47 ∷ front_of name) []) bare
front_is (b ∷ front) name bare =
    ap (λ v. cond v (b ∷ front_of (text_under front name)) []) (slash_within front name) ∙ ap (λ t. b ∷ t) (front_is front name bare)

-- and its name
pub name_is : (front name : Text) → has_slash name ≡ false → name_of (text_under front name) ≡ name
unfolding name_of
name_is [] name bare = ap (λ v. cond v (name_of name) name) bare
name_is (b ∷ front) name bare =
    ap (λ v. cond v (name_of (text_under front name)) (text_under front name)) (slash_within front name) ∙ name_is front name bare

-- keys that are cut are one where their parts are
pub cut_same : (f n g m : Text) → has_slash n ≡ false → has_slash m ≡ false → (text_eq n m && text_eq f g) ≡ text_eq (text_under f n) (text_under g m)
cut_same f n g m bare bare-2 = by (text_eq n m) refl (text_eq f g) refl (text_eq (text_under f n) (text_under g m)) refl
  where
    one : text_eq (text_under f n) (text_under g m) ≡ true → (f ≡ g) × (n ≡ m)
    one h =
        let whole = (bytes_eq-Decides (text_under f n) (text_under g m)).0 h in
        (sym (front_is f n bare) ∙ ap front_of whole ∙ front_is g m bare-2, sym (name_is f n bare) ∙ ap name_of whole ∙ name_is g m bare-2)

    by : (u : Bool) → text_eq n m ≡ u → (v : Bool) → text_eq f g ≡ v → (w : Bool) → text_eq (text_under f n) (text_under g m) ≡ w → (u && v) ≡ w
    by true hu true hv true hw = refl
    by true hu true hv false hw =
        absurd (true≢false (sym ((bytes_eq-Decides (text_under f n) (text_under g m)).1
        (λ i. text_under ((bytes_eq-Decides f g).0 hv i) ((bytes_eq-Decides n m).0 hu i))) ∙ hw))
    by true hu false hv true hw = absurd (true≢false (sym ((bytes_eq-Decides f g).1 (one hw).0) ∙ hv))
    by true hu false hv false hw = refl
    by false hu v hv true hw = absurd (true≢false (sym ((bytes_eq-Decides n m).1 (one hw).1) ∙ hu))
    by false hu v hv false hw = refl
