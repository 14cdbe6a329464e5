-- Texts that get numbers, and entries of one table under the numbers of another.
use Rattle.std.proofs.Common.{rules as std_rules, ◌≡◌, refl, sym, ap, subst, ◌∙◌, ℕ, suc, ◌+◌, Bool, true, false, not, ◌||◌, List, [], ◌∷◌, ◌++◌, cond, arith, map, Option, None, Some, option_map, String}
use Rattle.std.specs.{Prelude.slice_get, Prelude.option_and_then, Prelude.string_eq, List.IsDistinct, List.list_any, List.position_or_len, Map.keys_of}
use Rattle.std.specs.declared.alloc.Global.{Global}
use Rattle.std.proofs.{lemmas.Option.same_Some as same-some, lemmas.Option.slice_get-map, lemmas.List.map-append}
use Rattle.indexmap.specs.{IndexMap.insert_all, IndexMap.insert_entry, IndexSet.insert_key}
use Rattle.wit_model.specs.Text.{Text, text_eq, text_of}
use Rattle.wit_model.proofs.{VersionLaws.same_text}
use Rattle.bind_keys.specs.contracts.table.KeyPartialEq.TheImpl as equality
use Rattle.bind_keys.specs.{Cuts.text_under, Encodings.kept_encodings, Unions.Gains}
use Rattle.bind_keys.specs.Tables.{all_renumbered, front_text, Fronts, IsFront, IsTable, Keeps, KeyEntries, number_at, numbers_among, whole_entries}
use Rattle.bind_keys.proofs.{Conflicts.gains, TableEntries.distinct_too, TableEntries.put_proper, TableEntries.put_whole, TableKeys.front_there, TableKeys.there}

-- ---- texts that get numbers

stays : (fs more : Fronts) (text : Text) (n : ℕ) → number_at fs text ≡ Some n → number_at (fs ++ more) text ≡ Some n
stays [] more text n h = absurd (search (std_rules, h))
stays (x ∷ fs) more text n h = by (text_eq text x) (number_at fs text) refl (λ i e. stays fs more text i e) h
  where
    by : (b : Bool) (o : Option ℕ) → number_at fs text ≡ o → ((i : ℕ) → number_at fs text ≡ Some i → number_at (fs ++ more) text ≡ Some i) → cond b (Some 0) (option_map suc o) ≡ Some n
        → cond b (Some 0) (option_map suc (number_at (fs ++ more) text)) ≡ Some n
    by true o e rest k = k
    by false (Some i) e rest k = ap (option_map suc) (rest i e) ∙ k
    by false None e rest k = absurd (search (std_rules, k))

all_stay : (keys : List (String Global)) (k : String Global) → Keeps (map text_of keys) (map text_of (keys ++ k ∷ []))
all_stay keys k text n h = subst (λ (fs : Fronts). number_at fs text ≡ Some n) (sym (map-append text_of keys (k ∷ []))) (stays (map text_of keys) (text_of k ∷ []) text n h)

one_before : (n : ℕ) → suc n ≡ 1 + n
one_before n = omega arith

first_of : (keys : List (String Global)) (k : String Global) → list_any (string_eq k) keys ≡ true → number_at (map text_of keys) (text_of k) ≡ Some (position_or_len (string_eq k) keys)
first_of [] k h = absurd (search (std_rules, h))
first_of (x ∷ keys) k h = by (string_eq k x) h (first_of keys k)
  where
    by : (b : Bool) → (b || list_any (string_eq k) keys) ≡ true → (list_any (string_eq k) keys ≡ true → number_at (map text_of keys) (text_of k) ≡ Some (position_or_len (string_eq k) keys))
        → cond b (Some 0) (option_map suc (number_at (map text_of keys) (text_of k))) ≡ Some (cond (not b) (1 + position_or_len (string_eq k) keys) 0)
    by true e rest = refl
    by false e rest = ap (option_map suc) (rest e) ∙ ap Some (one_before (position_or_len (string_eq k) keys))

last_of : (keys : List (String Global)) (k : String Global) → list_any (string_eq k) keys ≡ false → number_at (map text_of (keys ++ k ∷ [])) (text_of k) ≡ Some (position_or_len (string_eq k) keys)
last_of [] k h = ap (λ b. cond b (Some 0) None) (same_text (text_of k) (text_of k) refl)
last_of (x ∷ keys) k h = by (string_eq k x) h (last_of keys k)
  where
    by : (b : Bool) → (b || list_any (string_eq k) keys) ≡ false
        → (list_any (string_eq k) keys ≡ false → number_at (map text_of (keys ++ k ∷ [])) (text_of k) ≡ Some (position_or_len (string_eq k) keys))
        → cond b (Some 0) (option_map suc (number_at (map text_of (keys ++ k ∷ [])) (text_of k))) ≡ Some (cond (not b) (1 + position_or_len (string_eq k) keys) 0)
    by true e rest = refl
    by false e rest = ap (option_map suc) (rest e) ∙ ap Some (one_before (position_or_len (string_eq k) keys))

module _ (keys : List (String Global)) (k : String Global) where
  pub keys_stay : Keeps (map text_of keys) (map text_of (insert_key string_eq keys k))
  keys_stay = by (list_any (string_eq k) keys)
    where
      by : (b : Bool) → Keeps (map text_of keys) (map text_of (cond b keys (keys ++ k ∷ [])))
      by true = λ text n h. h
      by false = all_stay keys k

  pub key_stands : number_at (map text_of (insert_key string_eq keys k)) (text_of k) ≡ Some (position_or_len (string_eq k) keys)
  key_stands = by (list_any (string_eq k) keys) refl
    where
      by : (b : Bool) → list_any (string_eq k) keys ≡ b → number_at (map text_of (cond b keys (keys ++ k ∷ []))) (text_of k) ≡ Some (position_or_len (string_eq k) keys)
      by true h = first_of keys k h
      by false h = last_of keys k h

-- ---- numbers of one table's texts in another

pub number_there : (fs gs : Fronts) (text : Text) (m : ℕ) → number_at gs text ≡ Some m → slice_get (numbers_among fs gs) m ≡ Some (number_at fs text)
number_there fs gs text m h = slice_get-map (λ x. number_at fs x) gs m ∙ ap (option_map (λ x. number_at fs x)) (there gs text m h)

-- texts with numbers keep them
pub still_numbers : (old new : Fronts) → Keeps old new → (ns : List ℕ) (done : Fronts) → map Some ns ≡ numbers_among old done → map Some ns ≡ numbers_among new done
still_numbers old new keeps [] [] h = refl
still_numbers old new keeps [] (x ∷ done) h = absurd (search (std_rules, h))
still_numbers old new keeps (n ∷ ns) [] h = absurd (search (std_rules, h))
still_numbers old new keeps (n ∷ ns) (x ∷ done) h =
    let heads = same-head h in
    λ i. sym (keeps x n (sym heads.0)) i ∷ still_numbers old new keeps ns done heads.1 i
  where
    same-head : {a b : Option ℕ} {xs ys : List (Option ℕ)} → (a ∷ xs) ≡ (b ∷ ys) → (a ≡ b) × (xs ≡ ys)
    same-head e = search (std_rules, e)

-- one more text gets a number
pub one_more : (old new : Fronts) → Keeps old new → (ns more : List ℕ) (n : ℕ) (done : Fronts) (text : Text) → more ≡ ns ++ n ∷ [] → map Some ns ≡ numbers_among old done
    → number_at new text ≡ Some n → map Some more ≡ numbers_among new (done ++ text ∷ [])
one_more old new keeps ns more n done text is h at =
    ap (map Some) is ∙ (map-append Some ns (n ∷ []) ∙ ((λ i. still_numbers old new keeps ns done h i ++ (sym at i ∷ [])) ∙ sym (map-append (λ x. number_at new x) done (text ∷ []))))

module _ (fs gs : Fronts) (ns : List ℕ) (h : map Some ns ≡ numbers_among fs gs) where
  new_front : (n : Option ℕ) (name : Text) → IsFront gs n name → (front_text fs (option_and_then (slice_get ns) n) name ≡ front_text gs n name) × IsFront fs (option_and_then (slice_get ns) n) name
  new_front None name p = (refl, tt)
  new_front (Some m) name (text, at, apart) = by (slice_get ns m) (sym (slice_get-map Some ns m) ∙ (ap (λ xs. slice_get xs m) h ∙ number_there fs gs text m at))
    where
      by : (o : Option ℕ) → option_map Some o ≡ Some (number_at fs text) → (front_text fs o name ≡ front_text gs (Some m) name) × IsFront fs o name
      by None e = absurd (search (std_rules, e))
      by (Some k) e =
          let here : number_at fs text ≡ Some k = sym (same-some (Some k) (number_at fs text) e) in
          (front_there fs text name k here ∙ sym (front_there gs text name m at), (text, here, apart))

  pub renumbered_whole : (es : KeyEntries) → IsTable gs es → whole_entries fs (all_renumbered ns es) ≡ whole_entries gs es
  renumbered_whole [] all = refl
  renumbered_whole (e ∷ es) all = λ i. (text_under ((new_front (e.0.front) (text_of e.0.name) all.0.1).0 i) (text_of e.0.name), e.1) ∷ renumbered_whole es all.1 i

  pub renumbered_proper : (es : KeyEntries) → IsTable gs es → IsTable fs (all_renumbered ns es)
  renumbered_proper [] all = tt
  renumbered_proper (e ∷ es) all = ((all.0.0, (new_front (e.0.front) (text_of e.0.name) all.0.1).1), renumbered_proper es all.1)

-- ---- all put

pub all_proper : (fs : Fronts) (es xs : KeyEntries) → IsTable fs es → IsTable fs xs → IsTable fs (insert_all equality.ghosts.eq es xs)
all_proper fs es [] p q = p
all_proper fs es (x ∷ xs) p q = all_proper fs (insert_entry equality.ghosts.eq es x.0 x.1) xs (put_proper fs x.0 x.1 q.0 es p) q.1

all_whole : (fs : Fronts) (es xs : KeyEntries) → IsTable fs es → IsTable fs xs → whole_entries fs (insert_all equality.ghosts.eq es xs) ≡ insert_all text_eq (whole_entries fs es) (whole_entries fs xs)
all_whole fs es [] p q = refl
all_whole fs es (x ∷ xs) p q = all_whole fs (insert_entry equality.ghosts.eq es x.0 x.1) xs (put_proper fs x.0 x.1 q.0 es p) q.1
    ∙ ap (λ ys. insert_all text_eq ys (whole_entries fs xs)) (put_whole fs x.0 x.1 q.0 es p)

-- entries of another table are gained
pub all_gained : (fs gs : Fronts) (ns : List ℕ) → map Some ns ≡ numbers_among fs gs → (es xs new : KeyEntries) → IsTable fs es → IsTable gs xs → IsDistinct equality.ghosts.eq (keys_of xs)
    → new ≡ insert_all equality.ghosts.eq es (all_renumbered ns xs) → Gains (kept_encodings (whole_entries gs xs)) (kept_encodings (whole_entries fs es)) (kept_encodings (whole_entries fs new))
all_gained fs gs ns h es xs new p q d is = gains (whole_entries gs xs) (whole_entries fs es) (whole_entries fs new) (distinct_too gs xs q d)
    (ap (whole_entries fs) is ∙ (all_whole fs es (all_renumbered ns xs) p (renumbered_proper fs gs ns h xs q) ∙ ap (insert_all text_eq (whole_entries fs es)) (renumbered_whole fs gs ns h xs q)))
