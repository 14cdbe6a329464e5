-- What is kept under keys is a map by their texts.
use Rattle.std.proofs.Common.{rules as std_rules, ◌≡◌, refl, ap, ◌∙◌, true, false, List, [], ◌∷◌, cond, Option, Some, None}
use Rattle.std.proofs.lemmas.{Cmp.nat_list_cmp_total}
use Rattle.std.specs.{Map.lookup, Option.option_map_or, FinMap.find, FinMap.get-from_entries}
use Rattle.indexmap.specs.IndexMap.{insert_entry}
use Rattle.wit_model.specs.declared.model.{Resolve.Resolve, StringEncoding.StringEncoding, WorldKey.WorldKey}
use Rattle.wit_model.specs.Text.{Text, text_eq, text_cmp}
use Rattle.wit_model.proofs.{AnyOrder.same-text}
use Rattle.bind_keys.specs.{Keys.function_key, Encodings.encoding_at, Encodings.encoding_under, Encodings.kept_encodings, KeyTests.is_key_of, KeyLists.Puts}

abbrev pub Entries : Type 0
Entries = List (Text × StringEncoding)

abbrev pub under : Text → Entries → Option StringEncoding
under q es = lookup (λ k. text_eq q k) es

find_is : (q : Text) (es : Entries) → find text_cmp q es ≡ under q es
find_is q [] = refl
find_is q (e ∷ es) = let rest = find_is q es in let key = same-text q e.0 in λ i. cond (key i) (Some e.1) (rest i)

-- a look-up in the map is one among the entries
pub kept_at : (q : Text) (es : Entries) → encoding_at (kept_encodings es) q ≡ under q es
kept_at q es = get-from_entries nat_list_cmp_total es q ∙ find_is q es

-- ---- looked for

nowhere : (es : Entries) → None ≡ lookup (λ k. false) es
nowhere [] = refl
nowhere (e ∷ es) = nowhere es

module _ (r : Resolve) (scope : WorldKey) (function : Text) where
  abbrev pub among : Entries → Option StringEncoding
  among es = lookup (λ k. is_key_of r scope function k) es

  -- at first all entries are left
  pub kept_among : (es : Entries) → encoding_under (kept_encodings es) (function_key r scope function) ≡ among es
  kept_among es = by (function_key r scope function)
    where
      by : (o : Option Text) → encoding_under (kept_encodings es) o ≡ lookup (λ k. option_map_or (λ q. text_eq q k) o false) es
      by None = nowhere es
      by (Some q) = kept_at q es

  pub first_is : (k : Text) (e : StringEncoding) (es : Entries) → is_key_of r scope function k ≡ true → among ((k, e) ∷ es) ≡ Some e
  first_is k e es h = ap (λ b. cond b (Some e) (among es)) h

-- ---- put

module _ (q : Text) (k : Text) (v : StringEncoding) where
  put_first : (e : Text × StringEncoding) (found : Option StringEncoding) → text_eq k e.0 ≡ true
      → cond (text_eq q e.0) (Some v) found ≡ cond (text_eq q k) (Some v) (cond (text_eq q e.0) (Some e.1) found)
  put_first e found same = search std_rules

  put_later : (e : Text × StringEncoding) (found : Option StringEncoding) → text_eq k e.0 ≡ false
      → cond (text_eq q e.0) (Some e.1) (cond (text_eq q k) (Some v) found) ≡ cond (text_eq q k) (Some v) (cond (text_eq q e.0) (Some e.1) found)
  put_later e found other = search std_rules

  pub under_put : (es : Entries) → under q (insert_entry text_eq es k v) ≡ cond (text_eq q k) (Some v) (under q es)
  under_put [] = refl
  under_put (e ∷ es) = search (std_rules, put_first, put_later, under_put es)

-- an entry put is an encoding put
pub puts : (es fs : Entries) (k : Text) (v : StringEncoding) → fs ≡ insert_entry text_eq es k v → Puts ((k, v) ∷ []) (kept_encodings es) (kept_encodings fs)
puts es fs k v h q = search (std_rules, kept_at, under_put)
