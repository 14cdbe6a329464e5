-- Types that meet their fates one by one.
use Rattle.base_lemmas.proofs.Bools.{left_of as first_true, right_of as second_true}
use Rattle.bind_carry.specs.{Fates.AreCopied, Fates.AreCopiedSoFar, Fates.MeetsFate, declared.fate.Fate.Fate}
use Rattle.bind_copy.specs.Copies.{IsTypeUnder, all_below, number_under}
use Rattle.bind_union.specs.Views.{KindView, alias_view, borrow_view, fixed_list_view, future_view, kind_view, list_view, map_view, option_view, optional_numbers, own_view, record_view, renamed, renamed_type, result_view, stream_view, tuple_view, type_numbers, variant_view, view_numbers}
use Rattle.std.proofs.Common.{List, Option, [], ap, append-nil, append_assoc, arith, length, map, nat_lt, option_map, refl, rules as std_rules, suc, true, zero, ℕ, ◌++◌, ◌<◌, ◌∷◌, ◌≡◌}
use Rattle.std.proofs.lemmas.{Bool.ltb-true, List.length_push, List.Folds.list_all-append}
use Rattle.std.specs.List.{flat_map}
use Rattle.wit_model.specs.{Text.Text, declared.model.TypeDef.TypeDef, declared.model.TypeOwner.TypeOwner, declared.model.«Type».«Type» as ValueType}

-- ---- numbers that agree below a bound

module _ (f g : ℕ → ℕ) (count : ℕ) (agree : (n : ℕ) → n < count → f n ≡ g n) where
  below : (x : ℕ) (xs : List ℕ) → all_below count (x ∷ xs) ≡ true → f x ≡ g x
  below x xs h = agree x (ltb-true x count (first_true (nat_lt x count) (all_below count xs) h))

  type_agrees : (t : ValueType) → all_below count (type_numbers t) ≡ true → renamed_type f t ≡ renamed_type g t
  type_agrees x h = search std_rules

  split : (xs ys : List ℕ) → all_below count (xs ++ ys) ≡ true → (all_below count xs ≡ true) × (all_below count ys ≡ true)
  split xs ys h = search (std_rules, list_all-append, first_true, second_true)

  option_agrees : (t : Option ValueType) → all_below count (optional_numbers t) ≡ true → option_map (renamed_type f) t ≡ option_map (renamed_type g) t
  option_agrees x h = search std_rules

  types_agree : (ts : List ValueType) → all_below count (flat_map type_numbers ts) ≡ true → map (renamed_type f) ts ≡ map (renamed_type g) ts
  types_agree [] h = refl
  types_agree (t ∷ ts) h = let parts = split (type_numbers t) (flat_map type_numbers ts) h in λ i. type_agrees t parts.0 i ∷ types_agree ts parts.1 i

  fields_agree : (xs : List (Text × ValueType)) → all_below count (flat_map (λ x. type_numbers x.1) xs) ≡ true
      → map {B = Text × ValueType} (λ x. (x.0, renamed_type f x.1)) xs ≡ map (λ x. (x.0, renamed_type g x.1)) xs
  fields_agree [] h = refl
  fields_agree (x ∷ xs) h = let parts = split (type_numbers x.1) (flat_map (λ y. type_numbers y.1) xs) h in λ i. (x.0, type_agrees x.1 parts.0 i) ∷ fields_agree xs parts.1 i

  cases_agree : (xs : List (Text × Option ValueType)) → all_below count (flat_map (λ x. optional_numbers x.1) xs) ≡ true
      → map {B = Text × Option ValueType} (λ x. (x.0, option_map (renamed_type f) x.1)) xs ≡ map (λ x. (x.0, option_map (renamed_type g) x.1)) xs
  cases_agree [] h = refl
  cases_agree (x ∷ xs) h = let parts = split (optional_numbers x.1) (flat_map (λ y. optional_numbers y.1) xs) h in λ i. (x.0, option_agrees x.1 parts.0 i) ∷ cases_agree xs parts.1 i

  view_agrees : (v : KindView) → all_below count (view_numbers v) ≡ true → renamed f v ≡ renamed g v
  view_agrees (record_view fields) h = ap record_view (fields_agree fields h)
  view_agrees (variant_view cases) h = ap variant_view (cases_agree cases h)
  view_agrees (tuple_view ts) h = ap tuple_view (types_agree ts h)
  view_agrees (own_view n) h = ap own_view (below n [] h)
  view_agrees (borrow_view n) h = ap borrow_view (below n [] h)
  view_agrees (option_view t) h = ap option_view (type_agrees t h)
  view_agrees (result_view ok err) h = let parts = split (optional_numbers ok) (optional_numbers err) h in λ i. result_view (option_agrees ok parts.0 i) (option_agrees err parts.1 i)
  view_agrees (list_view t) h = ap list_view (type_agrees t h)
  view_agrees (map_view k v) h = let parts = split (type_numbers k) (type_numbers v) h in λ i. map_view (type_agrees k parts.0 i) (type_agrees v parts.1 i)
  view_agrees (fixed_list_view t n) h = ap (λ x. fixed_list_view x n) (type_agrees t h)
  view_agrees (future_view t) h = ap future_view (option_agrees t h)
  view_agrees (stream_view t) h = ap stream_view (option_agrees t h)
  view_agrees (alias_view t) h = ap alias_view (type_agrees t h)
  view_agrees _ h = refl

-- ---- more numbers behind

in_front : (xs ys : List ℕ) (n : ℕ) → n < length xs → number_under xs n ≡ number_under (xs ++ ys) n
in_front [] ys n l = absurd (omega (arith, l))
in_front (x ∷ xs) ys zero l = refl
in_front (x ∷ xs) ys (suc n) l = in_front xs ys n (omega (arith, l))

-- a copy by the numbers so far is one by all numbers
with_more : (xs ys : List ℕ) (home : TypeOwner) (old new : TypeDef) → all_below (length xs) (view_numbers (kind_view old.kind)) ≡ true → IsTypeUnder xs home old new
    → IsTypeUnder (xs ++ ys) home old new
with_more xs ys home old new small is = search (std_rules, view_agrees, in_front)

-- ---- one type after the other

module _ (own : ℕ) (types : List TypeDef) (fates : List Fate) (old : List TypeDef) where
  abbrev SoFar : List ℕ → List TypeDef → List Fate → List TypeDef → Type 0
  SoFar numbers ts fs new = AreCopiedSoFar own types fates old numbers ts fs new

  one_met : (numbers : List ℕ) (t : TypeDef) (ts : List TypeDef) (f : Fate) (fs : List Fate) (now new : List TypeDef) (n : ℕ) → all_below (length numbers) (view_numbers (kind_view t.kind)) ≡ true
      → MeetsFate own numbers t f now new n → SoFar numbers (t ∷ ts) (f ∷ fs) now → SoFar (numbers ++ n ∷ []) ts fs new
  one_met numbers t ts x fs now new n small met so = search (std_rules, append_assoc, length_push, with_more)

  -- the same where what is left is known by another name
  pub one_more : (numbers : List ℕ) (left_types : List TypeDef) (left_fates : List Fate) (t : TypeDef) (ts : List TypeDef) (f : Fate) (fs : List Fate) (now new : List TypeDef) (n : ℕ)
      → left_types ≡ t ∷ ts → left_fates ≡ f ∷ fs
      → all_below (length numbers) (view_numbers (kind_view t.kind)) ≡ true → MeetsFate own numbers t f now new n → SoFar numbers left_types left_fates now → SoFar (numbers ++ n ∷ []) ts fs new
  one_more numbers left_types left_fates t ts f fs now new n at_t at_f small met so = search (std_rules, one_met)

  pub all_met : (numbers : List ℕ) (left_types : List TypeDef) (left_fates : List Fate) (new : List TypeDef) → left_types ≡ [] → left_fates ≡ [] → SoFar numbers left_types left_fates new
      → AreCopied own numbers types fates old new
  all_met numbers left_types left_fates new no_types no_fates so = search (std_rules, append-nil numbers, append-nil so.more)
