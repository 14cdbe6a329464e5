-- Entries of a table are found and put by the whole texts of their keys.
use Rattle.std.proofs.Common.{◌≡◌, refl, sym, ap, ◌∙◌, ℕ, Bool, true, false, [], ◌∷◌, cond, Option, None, Some}
use Rattle.std.specs.{List.AllByRecursion, List.IsDistinct, Map.keys_of, Map.lookup}
use Rattle.indexmap.specs.IndexMap.{insert_entry}
use Rattle.wit_model.specs.declared.model.StringEncoding.{StringEncoding}
use Rattle.wit_model.specs.Text.{Text, text_eq, text_of}
use Rattle.wit_model.proofs.{TextLemmas.text_same as text-same}
use Rattle.bind_keys.specs.declared.table.{Key.Key, Place.Place}
use Rattle.bind_keys.specs.contracts.table.KeyPartialEq.TheImpl as equality
use Rattle.bind_keys.specs.{Cuts.has_slash, Cuts.text_under, Places.makes_key}
use Rattle.bind_keys.specs.Tables.{front_text, Fronts, IsFront, IsProper, IsTable, Keeps, KeyEntries, number_at, number_for, whole, whole_entries}
use Rattle.bind_keys.proofs.{Kept.under, TableKeys.front_there, TableKeys.parts_apart, TableKeys.parts_same}

key_same : (fs : Fronts) (a b : Key) → IsProper fs a → IsProper fs b → equality.ghosts.eq a b ≡ text_eq (whole fs a) (whole fs b)
key_same fs a b p q = parts_same fs a.front b.front (text_of a.name) (text_of b.name) p.0 q.0 p.1 q.1

-- ---- put

module _ (fs : Fronts) (k : Key) (v : StringEncoding) (p : IsProper fs k) where
  pub put_whole : (es : KeyEntries) → IsTable fs es → whole_entries fs (insert_entry equality.ghosts.eq es k v) ≡ insert_entry text_eq (whole_entries fs es) (whole fs k) v
  put_whole [] all = refl
  put_whole (e ∷ es) all = by (equality.ghosts.eq k e.0) (text_eq (whole fs k) (whole fs e.0)) (key_same fs k e.0 p all.0) (put_whole es all.1)
    where
      by : (b : Bool) (c : Bool) → b ≡ c → whole_entries fs (insert_entry equality.ghosts.eq es k v) ≡ insert_entry text_eq (whole_entries fs es) (whole fs k) v
          → whole_entries fs (cond b ((e.0, v) ∷ es) (e ∷ insert_entry equality.ghosts.eq es k v))
          ≡ cond c ((whole fs e.0, v) ∷ whole_entries fs es) ((whole fs e.0, e.1) ∷ insert_entry text_eq (whole_entries fs es) (whole fs k) v)
      by true c same rest = ap (λ x. cond x ((whole fs e.0, v) ∷ whole_entries fs es) ((whole fs e.0, e.1) ∷ insert_entry text_eq (whole_entries fs es) (whole fs k) v)) same
      by false c same rest =
          ap (λ es. (whole fs e.0, e.1) ∷ es) rest ∙ ap (λ x. cond x ((whole fs e.0, v) ∷ whole_entries fs es) ((whole fs e.0, e.1) ∷ insert_entry text_eq (whole_entries fs es) (whole fs k) v)) same

  pub put_proper : (es : KeyEntries) → IsTable fs es → IsTable fs (insert_entry equality.ghosts.eq es k v)
  put_proper [] all = (p, tt)
  put_proper (e ∷ es) all = by (equality.ghosts.eq k e.0) (put_proper es all.1)
    where
      by : (b : Bool) → IsTable fs (insert_entry equality.ghosts.eq es k v) → IsTable fs (cond b ((e.0, v) ∷ es) (e ∷ insert_entry equality.ghosts.eq es k v))
      by true rest = all
      by false rest = (all.0, rest)

-- ---- found

-- a place among proper keys
pub found : (fs : Fronts) (place : Place) (es : KeyEntries) → IsTable fs es → has_slash place.name.now ≡ false → IsFront fs place.front place.name.now
    → lookup (makes_key place) es ≡ under (text_under (front_text fs place.front place.name.now) place.name.now) (whole_entries fs es)
found fs place [] all bare p = refl
found fs place (e ∷ es) all bare p =
    let same = parts_same fs place.front (e.0.front) place.name.now (text_of e.0.name) bare all.0.0 p all.0.1 in
    λ i. cond (same i) (Some e.1) (found fs place es all.1 bare p i)

-- under a text without a number stands nothing
pub nothing_under : (fs : Fronts) (text name : Text) (es : KeyEntries) → IsTable fs es → has_slash name ≡ false → number_at fs text ≡ None → text_eq text name ≡ false
    → under (text_under text name) (whole_entries fs es) ≡ None
nothing_under fs text name [] all bare none apart = refl
nothing_under fs text name (e ∷ es) all bare none apart = ap (λ b. cond b (Some e.1) (under (text_under text name) (whole_entries fs es)))
    (parts_apart fs text (e.0.front) name (text_of e.0.name) bare all.0.0 none apart all.0.1) ∙ nothing_under fs text name es all.1 bare none apart

-- ---- more texts

module _ (old new : Fronts) (keeps : Keeps old new) where
  front_kept : (n : Option ℕ) (name : Text) → IsFront old n name → (front_text new n name ≡ front_text old n name) × IsFront new n name
  front_kept None name p = (refl, tt)
  front_kept (Some n) name (text, at, apart) = (front_there new text name n (keeps text n at) ∙ sym (front_there old text name n at), (text, keeps text n at, apart))

  pub whole_kept : (es : KeyEntries) → IsTable old es → whole_entries new es ≡ whole_entries old es
  whole_kept [] all = refl
  whole_kept (e ∷ es) all = λ i. (text_under ((front_kept (e.0.front) (text_of e.0.name) all.0.1).0 i) (text_of e.0.name), e.1) ∷ whole_kept es all.1 i

  pub table_kept : (es : KeyEntries) → IsTable old es → IsTable new es
  table_kept [] all = tt
  table_kept (e ∷ es) all = ((all.0.0, (front_kept (e.0.front) (text_of e.0.name) all.0.1).1), table_kept es all.1)

-- ---- apart

apart_too : (fs : Fronts) (k : Key) (es : KeyEntries) → IsProper fs k → IsTable fs es → AllByRecursion (λ l. equality.ghosts.eq k l ≡ false) (keys_of es)
    → AllByRecursion (λ t. text_eq (whole fs k) t ≡ false) (keys_of (whole_entries fs es))
apart_too fs k [] p all h = tt
apart_too fs k (e ∷ es) p all h = (sym (key_same fs k e.0 p all.0) ∙ h.0, apart_too fs k es p all.1 h.1)

-- keys that differ are whole texts that differ
pub distinct_too : (fs : Fronts) (es : KeyEntries) → IsTable fs es → IsDistinct equality.ghosts.eq (keys_of es) → IsDistinct text_eq (keys_of (whole_entries fs es))
unfolding IsDistinct
distinct_too fs [] all d = tt
distinct_too fs (e ∷ es) all d = (apart_too fs e.0 es all.0 all.1 d.0, distinct_too fs es all.1 d.1)

-- ---- other keys

-- a text with its number before a name
pub number_proper : (fs : Fronts) (text : Text) (n : ℕ) (name : Text) → number_at fs text ≡ Some n → IsFront fs (number_for text n name) name × (front_text fs (number_for text n name) name ≡ text)
number_proper fs text n name at = by (text_eq text name) refl
  where
    by : (b : Bool) → text_eq text name ≡ b → IsFront fs (cond b None (Some n)) name × (front_text fs (cond b None (Some n)) name ≡ text)
    by true same = (tt, sym (text-same text name same))
    by false apart = ((text, at, apart), front_there fs text name n at)
