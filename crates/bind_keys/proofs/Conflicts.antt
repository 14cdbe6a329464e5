-- The least key that has two encodings, found one entry after the other; and encodings added to others.
use Rattle.std.proofs.Common.{rules as std_rules, ◌≡◌, refl, sym, subst, ◌∙◌, ◌⊎◌, inl, inr, Bool, true, false, not, [], ◌∷◌, cond, Option, Some, None}
use mathlib.Core.Bool.{true≢false}
use Rattle.std.specs.{Prelude.◌==◌, List.AllByRecursion, List.IsDistinct, Map.keys_of, Option.option_map_or}
use Rattle.indexmap.specs.IndexMap.{insert_all, insert_entry}
use Rattle.wit_model.specs.declared.model.StringEncoding.{StringEncoding}
use Rattle.wit_model.specs.Text.{Text, text_eq}
use Rattle.wit_model.proofs.{VersionLaws.same_text, TextLemmas.text_same as text-same}
use Rattle.bind_meaning.specs.Clash.{Differ, EncodingFault, itself}
use Rattle.bind_clash.specs.Faults.{IsLeastFault, least_of}
use Rattle.bind_clash.proofs.LeastFaults.{of_two, one_fault, same_faults}
use Rattle.bind_keys.specs.Encodings.{Encodings, encoding_at, kept_encodings, number_of_encoding}
use Rattle.bind_keys.specs.Unions.{conflict_at, Gains, has_another, or_else}
use Rattle.bind_keys.proofs.Kept.{Entries, kept_at, under, under_put}

-- ---- the least of what is left, beside the least so far

abbrev pub least_from : Encodings → Option Text → Entries → Option Text
least_from m so_far [] = so_far
least_from m so_far (e ∷ es) = least_from m (least_of so_far (conflict_at m e.0 e.1)) es

-- the entry has the key, which has another encoding
abbrev Here : Encodings → Text × StringEncoding → Text → Type 0
Here m e t = (t ≡ e.0) × (has_another m t e.1 ≡ true)

-- one of the entries does
abbrev Among : Encodings → Entries → Text → Type 0
Among m [] t = ⊥
Among m (e ∷ es) t = Here m e t ⊎ Among m es t

of_one : (m : Encodings) (e : Text × StringEncoding) → IsLeastFault (Here m e) (conflict_at m e.0 e.1)
of_one m e = by (has_another m e.0 e.1) refl
  where
    by : (b : Bool) → has_another m e.0 e.1 ≡ b → IsLeastFault (Here m e) (cond b (Some e.0) None)
    by true h = one_fault (Here m e) e.0 (refl, h) (λ s x. x.0)
    by false h = λ t x. true≢false (sym (subst (λ (s : Text). has_another m s e.1 ≡ true) x.0 x.1) ∙ h)

of_all : (m : Encodings) (P : Text → Type 0) (so_far : Option Text) (es : Entries) → IsLeastFault P so_far → IsLeastFault (λ t. P t ⊎ Among m es t) (least_from m so_far es)
of_all m P so_far [] h = same_faults P (λ t. P t ⊎ ⊥) (λ t p. inl p) (λ t x. elim x [ inl p ↦ p | inr z ↦ absurd z ]) so_far h
of_all m P so_far (e ∷ es) h =
    search (std_rules, same_faults, of_two, of_one, of_all m (λ t. P t ⊎ Here m e t) (least_of so_far (conflict_at m e.0 e.1)) es (of_two P (Here m e) so_far (conflict_at m e.0 e.1) h (of_one m e)))

-- ---- another encoding

differs : (o : Option StringEncoding) (e : StringEncoding) → option_map_or (λ f. not (number_of_encoding f == number_of_encoding e)) o false ≡ true → Differ itself o (Some e)
differs y e h = search std_rules

differing : (o : Option StringEncoding) (e : StringEncoding) → Differ itself o (Some e) → option_map_or (λ f. not (number_of_encoding f == number_of_encoding e)) o false ≡ true
differing x e h = search std_rules

none_differs : (o : Option StringEncoding) → Differ itself o None → ⊥
none_differs x h = search std_rules

-- ---- entries, of which no two have one key

abbrev Apart : Text → Entries → Type 0
Apart k es = AllByRecursion (λ y. text_eq k y ≡ false) (keys_of es)

not_first : (m : Encodings) (k : Text) (es : Entries) → Apart k es → (t : Text) → Among m es t → text_eq t k ≡ false
not_first m k [] apart t x = absurd x
not_first m k (e ∷ es) apart t (inr x) = not_first m k es apart.1 t x
not_first m k (e ∷ es) apart t (inl (same, h)) = search std_rules

is_fault : (m : Encodings) (es : Entries) → IsDistinct text_eq (keys_of es) → (t : Text) → Among m es t → Differ itself (encoding_at m t) (under t es)
unfolding IsDistinct
is_fault m [] d t x = absurd x
is_fault m (e ∷ es) d t (inl (same, h)) = search std_rules
is_fault m (e ∷ es) d t (inr x) = search (std_rules, under, not_first, is_fault m es d.1 t x)

is_among : (m : Encodings) (es : Entries) (t : Text) → Differ itself (encoding_at m t) (under t es) → Among m es t
is_among m [] t h = none_differs (encoding_at m t) h
is_among m (e ∷ es) t h = by (text_eq t e.0) refl h (is_among m es t)
  where
    by : (b : Bool) → text_eq t e.0 ≡ b → Differ itself (encoding_at m t) (cond b (Some e.1) (under t es)) → (Differ itself (encoding_at m t) (under t es) → Among m es t) → Here m e t ⊎ Among m es t
    by true s x rest = inl (text-same t e.0 s, differing (encoding_at m t) e.1 x)
    by false s x rest = inr (rest x)

pub least_is : (m : Encodings) (es : Entries) → IsDistinct text_eq (keys_of es) → IsLeastFault (EncodingFault m (kept_encodings es)) (least_from m None es)
least_is m es d = same_faults (λ t. ⊥ ⊎ Among m es t) (EncodingFault m (kept_encodings es))
    (λ t x. elim x [ inl z ↦ absurd z | inr y ↦ subst (Differ itself (encoding_at m t)) (sym (kept_at t es)) (is_fault m es d t y) ])
    (λ t x. inr (is_among m es t (subst (Differ itself (encoding_at m t)) (kept_at t es) x))) (least_from m None es) (of_all m (λ t. ⊥) None es (λ t z. z))

-- ---- added

none_under : (q : Text) (k : Text) (es : Entries) → Apart k es → text_eq q k ≡ true → under q es ≡ None
none_under q k [] apart s = refl
none_under q k (e ∷ es) apart s = search (std_rules, under, same_text, text-same, none_under q k es apart.1 s)

gained : (q : Text) (more es : Entries) → IsDistinct text_eq (keys_of more) → under q (insert_all text_eq es more) ≡ or_else (under q more) (under q es)
unfolding IsDistinct
gained q [] es d = refl
gained q (e ∷ more) es d = search (std_rules, under, under_put, none_under, gained q more (insert_entry text_eq es e.0 e.1) d.1)

-- entries that are put in order are gained
pub gains : (more old new : Entries) → IsDistinct text_eq (keys_of more) → new ≡ insert_all text_eq old more → Gains (kept_encodings more) (kept_encodings old) (kept_encodings new)
gains more old new d h q = search (std_rules, kept_at, under, gained)
