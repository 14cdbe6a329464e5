-- The whole text as it grows, and the places of texts in it.
use Rattle.std.proofs.Common.{◌≡◌, refl, sym, ap, ◌∙◌, subst, ℕ, ◌+◌, ◌-◌, ◌<◌, ◌≤◌, ◌^◌, inl, inr, arith, min, List, [], ◌∷◌, ◌++◌, length, map, take, drop, get_or, slice_get, Some, string_len, string_bytes, length-append}
use Rattle.std.specs.List.{AllZip}
use Rattle.std.proofs.lemmas.{List.drop-append-le, List.take-append-le, List.length-take, List.length-drop, Option.slice_get_read, Option.slice_get-get_or}
use Rattle.base_lemmas.proofs.Lists.{take_found, append_of_map, front_or_last, one_item}
use Rattle.base_lemmas.proofs.Elements.{zip-append, zip-kept, zip_at, zip_long}
use Rattle.wit_model.specs.Text.{Text}
use Rattle.text_plain.specs.declared.whole.{FolderText.FolderText as CodeText, PlacedText.PlacedText, Whole.Whole}
use Rattle.text_plain.specs.Places.{AddsText, ArePlaced, IsPlaced, StandsAt, folder_text_of, placed_of}

pub turned : {X : Type 0} (xs : List X) (i : ℕ) (x : X) → i < length xs → x ≡ get_or xs i x → take (i + 1) xs ≡ take i xs ++ x ∷ []
turned xs i x below is = take_found xs i x (slice_get_read xs (length xs) i x refl below is)

-- what stands at a byte stays there when more follows
stays : (xs ys t : Text) (b : ℕ) → take (length t) (drop b xs) ≡ t → take (length t) (drop b (xs ++ ys)) ≡ t
stays xs ys [] b e = refl
stays xs ys (c ∷ cs) b e =
    let long : min (length (c ∷ cs)) (length (drop b xs)) ≡ length (c ∷ cs) = sym (length-take (length (c ∷ cs)) (drop b xs)) ∙ ap length e in
    let left : length (drop b xs) ≡ length xs - b = length-drop b xs in
    let below : b ≤ length xs = omega arith in
    let fits : length (c ∷ cs) ≤ length (drop b xs) = omega arith in
    ap (take (length (c ∷ cs))) (drop-append-le b xs ys below) ∙ (take-append-le (length (c ∷ cs)) (drop b xs) ys fits ∙ e)

-- what is put at the end stands there
stands_last : (xs t : Text) (b : ℕ) → b ≡ length xs → take (length t) (drop b (xs ++ t)) ≡ t
stands_last [] t b e = rw e (take_whole t)
  where
    take_whole : (l : Text) → take (length l) l ≡ l
    take_whole [] = refl
    take_whole (c ∷ cs) = ap (λ (l : Text). c ∷ l) (take_whole cs)
stands_last (x ∷ xs) t b e = rw e (stands_last xs t (length xs) refl)

-- Texts stand in the whole one, which is short.
pub record Holds (texts : List CodeText) (whole : Whole) : Type 0 where
  pub stands : AllZip (StandsAt (string_bytes whole.text)) texts whole.bases.items
  pub short : string_len whole.text < 2 ^ 32

pub text_turn : (texts : List CodeText) (i : ℕ) (it : CodeText) → i < length texts → it ≡ get_or texts i it → (old new : Whole) → string_len old.text ≡ length (string_bytes old.text)
    → Holds (take i texts) old → AddsText old it.text.now new → Holds (take (i + 1) texts) new
text_turn texts i it below is old new len held adds = record {
  stands =
      let kept : AllZip (StandsAt (string_bytes new.text)) (take i texts) old.bases.items = zip-kept (StandsAt (string_bytes old.text)) (StandsAt (string_bytes new.text))
      (λ t b e. subst (λ (w : Text). StandsAt w t b) (sym adds.text_is) (record {
        there = stays (string_bytes old.text) it.text.now t.text.now b e.there;
        within = omega (arith, e.within, length-append (string_bytes old.text) it.text.now);
      })) (take i texts) old.bases.items held.stands in
      let last : StandsAt (string_bytes new.text) it (string_len old.text) =
      subst (λ (w : Text). StandsAt w it (string_len old.text)) (sym adds.text_is) (record {
        there = stands_last (string_bytes old.text) it.text.now (string_len old.text) len;
        within = omega (arith, len, length-append (string_bytes old.text) it.text.now);
      }) in
      subst (λ (ts : List CodeText). AllZip (StandsAt (string_bytes new.text)) ts new.bases.items) (sym (turned texts i it below is))
      (subst (λ (bs : List ℕ). AllZip (StandsAt (string_bytes new.text)) (take i texts ++ it ∷ []) bs) (sym adds.bases_are)
      (zip-append (StandsAt (string_bytes new.text)) (take i texts) old.bases.items (it ∷ []) (string_len old.text ∷ []) kept (last, tt)));
  short = adds.short;
}

-- The texts so far have their places.
pub record Placed (whole : Text) (texts : List CodeText) (placed : List PlacedText) : Type 0 where
  pub are : ArePlaced whole placed
  pub same : map placed_of placed ≡ map folder_text_of texts

pub place_turn : (whole : Text) (texts : List CodeText) (i : ℕ) (it : CodeText) → i < length texts → it ≡ get_or texts i it → (old new : List PlacedText) (x : PlacedText)
    → Placed whole (take i texts) old → new ≡ old ++ x ∷ [] → IsPlaced whole x.place → placed_of x ≡ folder_text_of it → Placed whole (take (i + 1) texts) new
place_turn whole texts i it below is old new x held more here same = record {
  are = λ n y e. elim (front_or_last old x n y (ap (λ (l : List PlacedText). slice_get l n) (sym more) ∙ e)) [
    | inl u ↦ held.are n y u
    | inr u ↦ subst (λ (z : PlacedText). IsPlaced whole z.place) u here
  ];
  same = ap (map placed_of) more ∙ (append_of_map placed_of old (x ∷ []) ∙ (ap (λ (l : List _). l ++ placed_of x ∷ []) held.same
      ∙ (ap (λ (y : _). map folder_text_of (take i texts) ++ y ∷ []) same ∙ (sym (append_of_map folder_text_of (take i texts) (it ∷ []))
      ∙ ap (map folder_text_of) (sym (turned texts i it below is))))));
}

pub base_within : (whole : Text) (texts : List CodeText) (bases : List ℕ) (i : ℕ) → AllZip (StandsAt whole) texts bases → i < length texts → i < length bases
base_within whole texts bases i stands below = omega (arith, zip_long (StandsAt whole) texts bases stands)

pub stands_there : (whole : Text) (texts : List CodeText) (bases : List ℕ) (i : ℕ) (it : CodeText) → AllZip (StandsAt whole) texts bases → i < length texts → it ≡ get_or texts i it
    → StandsAt whole it (get_or bases i 0)
stands_there whole texts bases i it stands below is =
    let there = zip_at (StandsAt whole) texts bases stands i it (slice_get_read texts (length texts) i it refl below is) in
    let got : slice_get bases i ≡ Some (get_or bases i 0) = slice_get-get_or bases i 0 (base_within whole texts bases i stands below) in
    subst (λ (b : ℕ). StandsAt whole it b) (one_item bases i there.0 (get_or bases i 0) there.1 got) there.2
