-- Entries that are copied into a map one behind the other, where no name stands twice.
use Rattle.std.proofs.Common.{◌≡◌, refl, sym, ap, ap₂, ◌∙◌, ℕ, true, false, ◌&&◌, ◌||◌, not, List, [], ◌∷◌, ◌++◌, map}
use Rattle.std.proofs.lemmas.Bool.{not-true as not_true, or_parts as none_of}
use Rattle.std.specs.{List.list_any, List.AllByRecursion, List.IsDistinct, Map.keys_of, Prelude.String, Prelude.string_eq}
use Rattle.std.specs.declared.alloc.Global.{Global}
use Rattle.indexmap.specs.IndexMap.{insert_entry}
use Rattle.indexmap.proofs.MapLemmas.{insert_entry-absent}
use Rattle.wit_model.proofs.Distinct.{text_eq_flip}
use Rattle.wit_model.specs.{Rules.are_distinct, Text.Text, Text.text_eq, Text.text_of}
use Rattle.wit_model.specs.declared.model.TypeId.{TypeId}
use Rattle.bind_copy.specs.Copies.{names_in, number_under, type_names, type_names_under}
use Rattle.base_lemmas.proofs.Bools.{left_of as first_true, right_of as second_true}
use Rattle.bind_copy.proofs.CopiesLemmas.{names_alone_under as firsts_under}

-- no name in front is the one that stands in the middle
at_middle : (t x : Text) (front rest : List Text) → list_any (text_eq x) (front ++ t ∷ rest) ≡ false → text_eq x t ≡ false
at_middle t x [] rest h = (none_of (text_eq x t) (list_any (text_eq x) rest) h).0
at_middle t x (y ∷ ys) rest h = at_middle t x ys rest (none_of (text_eq x y) (list_any (text_eq x) (ys ++ t ∷ rest)) h).1

module _ {V : Type 0} (k : String Global) (rest : List Text) where
  absent : (done : List (String Global × V)) → are_distinct (names_in done ++ text_of k ∷ rest) ≡ true → AllByRecursion (λ q. string_eq k q ≡ false) (keys_of done)
  absent [] h = tt
  absent (e ∷ es) h =
      let others = list_any (text_eq (text_of e.0)) (names_in es ++ text_of k ∷ rest) in (
        text_eq_flip (text_of k) (text_of e.0) ∙ at_middle (text_of k) (text_of e.0) (names_in es) rest (not_true others (first_true (not others) (are_distinct (names_in es ++ text_of k ∷ rest)) h)),
        absent es (second_true (not others) (are_distinct (names_in es ++ text_of k ∷ rest)) h),
      )

  -- a name that doesn't stand in front goes last
  pub goes_last : (done new : List (String Global × V)) (v : V) → are_distinct (names_in done ++ text_of k ∷ rest) ≡ true → new ≡ insert_entry string_eq done k v → new ≡ done ++ (k, v) ∷ []
  goes_last done new v apart added = added ∙ insert_entry-absent string_eq k v done (absent done apart)

-- ---- types by their names

module _ (numbers : List ℕ) where
  firsts_done : (done : List (String Global × TypeId)) (ys : List (Text × ℕ)) → map (λ (x : Text × ℕ). x.0) (type_names done ++ ys) ≡ names_in done ++ map (λ (x : Text × ℕ). x.0) ys
  firsts_done [] ys = refl
  firsts_done (e ∷ es) ys = ap (λ ts. text_of e.0 ∷ ts) (firsts_done es ys)

  last_in : (done : List (String Global × TypeId)) (k : String Global) (v : TypeId) (ys : List (Text × ℕ)) → type_names (done ++ (k, v) ∷ []) ++ ys ≡ type_names done ++ (text_of k, v.0) ∷ ys
  last_in [] k v ys = refl
  last_in (e ∷ es) k v ys = ap (λ zs. (text_of e.0, e.1.0) ∷ zs) (last_in es k v ys)

  module _ (whole done new rest : List (String Global × TypeId)) (e : String Global × TypeId) (k : String Global) {v : TypeId} where
    -- one more is copied
    pub names_more : new ≡ insert_entry string_eq done k v → text_of k ≡ text_of e.0 → v.0 ≡ number_under numbers e.1.0 → are_distinct (names_in whole) ≡ true
        → type_names done ++ type_names_under numbers (e ∷ rest) ≡ type_names_under numbers whole → type_names new ++ type_names_under numbers rest ≡ type_names_under numbers whole
    names_more added name number apart before =
        let all : names_in done ++ text_of e.0 ∷ names_in rest ≡ names_in whole = ap (λ ts. names_in done ++ ts) (sym (firsts_under numbers (e ∷ rest)))
        ∙ (sym (firsts_done done (type_names_under numbers (e ∷ rest))) ∙ (ap (map (λ (x : Text × ℕ). x.0)) before ∙ firsts_under numbers whole)) in
        let differ : are_distinct (names_in done ++ text_of k ∷ names_in rest) ≡ true = ap (λ t. are_distinct (names_in done ++ t ∷ names_in rest)) name ∙ (ap are_distinct all ∙ apart) in
        ap (λ es. type_names es ++ type_names_under numbers rest) (goes_last k (names_in rest) done new v differ added)
        ∙ (last_in done k v (type_names_under numbers rest) ∙ ((λ j. type_names done ++ (name j, number j) ∷ type_names_under numbers rest) ∙ before))

-- ---- names that differ

module _ {V : Type 0} where
  none_same : (t : String Global) (es : List (String Global × V)) → AllByRecursion (λ q. string_eq t q ≡ false) (keys_of es) → list_any (text_eq (text_of t)) (names_in es) ≡ false
  none_same t [] h = refl
  none_same t (e ∷ es) h = ap₂ (λ a b. a || b) h.0 (none_same t es h.1)

  pub names_apart : (es : List (String Global × V)) → IsDistinct string_eq (keys_of es) → are_distinct (names_in es) ≡ true
  unfolding IsDistinct
  names_apart [] d = refl
  names_apart (e ∷ es) d = ap₂ (λ a b. not a && b) (none_same e.0 es d.0) (names_apart es d.1)
