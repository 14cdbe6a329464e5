-- Which own entry stands under a key of the other's.
use Rattle.std.proofs.Common.{rules as std_rules, ◌≡◌, refl, sym, ap, ◌∙◌, arith, ℕ, zero, suc, ◌+◌, Bool, true, false, cond, not, List, [], ◌∷◌, map, slice_get, Option, Some, None, option_and_then, unwrap_or, Contains, is_some}
use Rattle.std.proofs.lemmas.{Iterator.Adapters.position_from-zero, Option.slice_get-map, Option.same_Some as same-some, Slice.Eq.bytes_eq-Decides}
use Rattle.std.specs.{List.position_from, Prelude.position, FinMap.find, Ordering.eq_by_cmp}
use Rattle.wit_model.specs.declared.model.{Interface.Interface, InterfaceId.InterfaceId, Resolve.Resolve, WorldItem.WorldItem, WorldKey.WorldKey}
use Rattle.wit_model.specs.{Text.Text, Text.text_cmp, Text.text_eq, Rules.are_distinct, Valid.IsValid, Valid.key_eq}
use Rattle.wit_model.specs.{Lookup.interface_at, Lookup.interface_path, Lookup.key_text, Lookup.path_of_interface, Meant.entries_meaning, Meant.entry_meaning}
use Rattle.wit_model.proofs.{Elements.none-in, TextLemmas.text_same as text-same}
use Rattle.bind_meaning.proofs.Listed.{given as unpacked}
use Rattle.bind_meaning.proofs.{Maps.by_tie, Maps.eq_by_text, Maps.found_keys, Maps.has_key, Maps.itself_ties, WorldBindings.IsKey, WorldBindings.keys-apart}
use Rattle.bind_match.specs.declared.matches.Matches.{Matches}
use Rattle.bind_match.specs.Matching.{own_interface_of}
use Rattle.bind_clash.specs.Faults.{IsMatched, own_id, own_place_in}
use Rattle.bind_clash.proofs.PathsMatched.{own-interface-has, own-interface-there, untrue}
use Rattle.base_lemmas.proofs.{Bools.left_of as first_true, Bools.right_of as second_true, Elements.contains-later, Elements.first-contained}
use Rattle.base_lemmas.proofs.Options.{there as some-of}
use Rattle.wit_model.specs.declared.model.WorldKey.TheVariants as key

-- ---- keys by their texts

one-text : (r : Resolve) (a b : WorldKey) → key_eq a b ≡ true → key_text r a ≡ key_text r b
one-text r x y e = search std_rules

-- under a text that is no key's nothing is found
pub no-entry : (r : Resolve) (t : Text) (es : List (WorldKey × WorldItem)) → ((e : WorldKey × WorldItem) → Contains es e → text_eq t (key_text r e.0) ≡ false)
    → find text_cmp t (entries_meaning r es) ≡ None
no-entry r t [] none = refl
no-entry r t (e ∷ es) none = ap (λ b. cond b (Some (entry_meaning r e.1)) (find text_cmp t (entries_meaning r es))) (sym (eq_by_text t (key_text r e.0)) ∙ none e (first-contained e es))
    ∙ no-entry r t es (λ x c. none x (contains-later e es x c))

-- where no key stands twice, each finds its own
pub found-distinct : {X : Type 0} (es : List (Text × X)) (q : Text) (x : X) → are_distinct (map (λ e. e.0) es) ≡ true → Contains es (q, x) → find text_cmp q es ≡ Some x
found-distinct [] q x d c = none-in (q, x) c
found-distinct {X} (e ∷ es) q x d (zero, l, same) = search (std_rules, itself_ties)
found-distinct {X} (e ∷ es) q x d (suc i, l, same) = by (eq_by_cmp text_cmp q e.0) refl (found-distinct es q x (second_true (not (has_key e.0 es)) _ d) (i, omega (arith, l), same))
  where
    twice : (b : Bool) → not b ≡ true → b ≡ true → ⊥
    twice true h k = untrue h
    twice false h k = untrue k

    by : (b : Bool) → eq_by_cmp text_cmp q e.0 ≡ b → find text_cmp q es ≡ Some x → cond b (Some e.1) (find text_cmp q es) ≡ Some x
    by true t rest =
        let again : has_key e.0 es ≡ true = ap (λ (s : Text). has_key s es) (sym (by_tie q e.0 t)) ∙ (sym (found_keys q es) ∙ ap is_some rest) in
        absurd (twice (has_key e.0 es) (first_true (not (has_key e.0 es)) _ d) again)
    by false t rest = rest

-- ---- what a key finds among own entries

module _ (own : Resolve) (v : IsValid own) (k : WorldKey) (is : IsKey own v k) where
  -- keys are equal where their texts are
  alike : (d : WorldKey) → IsKey own v d → key_eq k d ≡ text_eq (key_text own k) (key_text own d)
  alike d g = by (key_eq k d) refl
    where
      by : (b : Bool) → key_eq k d ≡ b → key_eq k d ≡ text_eq (key_text own k) (key_text own d)
      by true e = e ∙ sym ((bytes_eq-Decides (key_text own k) (key_text own d)).1 (one-text own k d e))
      by false e = e ∙ sym (keys-apart own v k d is g e)

  tie : (d : WorldKey) → IsKey own v d → eq_by_cmp text_cmp (key_text own k) (key_text own d) ≡ key_eq k d
  tie d g = sym (eq_by_text (key_text own k) (key_text own d)) ∙ sym (alike d g)

  record IsUnder (es : List (WorldKey × WorldItem)) (n p : ℕ) : Type 0 where
    place : ℕ
    number : p ≡ n + place
    entry : WorldKey × WorldItem
    stands : slice_get es place ≡ Some entry
    found : find text_cmp (key_text own k) (entries_meaning own es) ≡ Some (entry_meaning own entry.1)

  under : (es : List (WorldKey × WorldItem)) → ((e : WorldKey × WorldItem) → Contains es e → IsKey own v e.0) → (n p : ℕ) → position_from (key_eq k) n (map (λ e. e.0) es) ≡ Some p → IsUnder es n p
  under [] all n p e = let no : ⊥ = cc in absurd no
  under (d ∷ es) all n p e = by (key_eq k d.0) refl e (λ f. under es (λ x c. all x (contains-later d es x c)) (n + 1) p f)
    where
      tied : (b : Bool) → key_eq k d.0 ≡ b
          → find text_cmp (key_text own k) (entries_meaning own (d ∷ es)) ≡ cond b (Some (entry_meaning own d.1)) (find text_cmp (key_text own k) (entries_meaning own es))
      tied b t = ap (λ b. cond b (Some (entry_meaning own d.1)) (find text_cmp (key_text own k) (entries_meaning own es))) (tie d.0 (all d (first-contained d es)) ∙ t)

      by : (b : Bool) → key_eq k d.0 ≡ b → cond b (Some n) (position_from (key_eq k) (n + 1) (map (λ (e : WorldKey × WorldItem). e.0) es)) ≡ Some p
          → (position_from (key_eq k) (n + 1) (map (λ (e : WorldKey × WorldItem). e.0) es) ≡ Some p → IsUnder es (n + 1) p) → IsUnder (d ∷ es) n p
      by true t f later =
          let here : n ≡ n + 0 = omega arith in
          record { place = 0; number = sym (same-some n p f) ∙ here; entry = d; stands = refl; found = tied true t }
      by false t f later =
          let z = later f in
          let j = z.place in
          let there : (n + 1) + j ≡ n + suc j = omega arith in
          record { place = suc z.place; number = z.number ∙ there; entry = z.entry; stands = z.stands; found = tied false t ∙ z.found }

  none-under : (es : List (WorldKey × WorldItem)) → ((e : WorldKey × WorldItem) → Contains es e → IsKey own v e.0) → (n : ℕ) → position_from (key_eq k) n (map (λ e. e.0) es) ≡ None
      → find text_cmp (key_text own k) (entries_meaning own es) ≡ None
  none-under [] all n e = refl
  none-under (d ∷ es) all n e = by (key_eq k d.0) refl e (λ f. none-under es (λ x c. all x (contains-later d es x c)) (n + 1) f)
    where
      by : (b : Bool) → key_eq k d.0 ≡ b → cond b (Some n) (position_from (key_eq k) (n + 1) (map (λ (e : WorldKey × WorldItem). e.0) es)) ≡ None
          → (position_from (key_eq k) (n + 1) (map (λ (e : WorldKey × WorldItem). e.0) es) ≡ None → find text_cmp (key_text own k) (entries_meaning own es) ≡ None)
          → find text_cmp (key_text own k) (entries_meaning own (d ∷ es)) ≡ None
      by true t f later = let no : ⊥ = cc in absurd no
      by false t f later = ap (λ b. cond b (Some (entry_meaning own d.1)) (find text_cmp (key_text own k) (entries_meaning own es))) (tie d.0 (all d (first-contained d es)) ∙ t) ∙ later f

-- ---- what a key of the other's finds

module _ (own other : Resolve) (v : IsValid own) (u : IsValid other) (m : Matches) (h : IsMatched own other m) (es : List (WorldKey × WorldItem)) (all : (e : WorldKey × WorldItem) → Contains es e → IsKey own v e.0) where
  own-id : (n : ℕ) (i : Interface) → interface_at other n ≡ Some i → own_id m n ≡ own_interface_of own m.packages.items i
  own-id n i at = search (std_rules, slice_get-map)

  -- the own interface of an interface's number has its path
  id-has : (n : ℕ) (t : Text) → interface_path other n ≡ Some t → (id : InterfaceId) → own_id m n ≡ Some id → interface_path own id.0 ≡ Some t
  id-has n t e id f =
      let i = unpacked (path_of_interface other) (interface_at other n) t e in
      own-interface-has own other v u m.packages.items h.packages n i.0 i.1 t i.2 id (sym (own-id n i.0 i.1) ∙ f)

  -- and where there is none no own interface has
  id-none : (n : ℕ) (t : Text) → interface_path other n ≡ Some t → own_id m n ≡ None → (j : ℕ) → interface_path own j ≡ Some t → ⊥
  id-none n t e f j g =
      let i = unpacked (path_of_interface other) (interface_at other n) t e in
      let found = own-interface-there own other v u m.packages.items h.packages n i.0 i.1 t i.2 j g in
      let wrong : None ≡ Some found.0 = sym f ∙ (own-id n i.0 i.1 ∙ found.1.0) in
      let no : ⊥ = cc in no

  pub record HasOwn (k : WorldKey) (p : ℕ) : Type 0 where
    pub entry : WorldKey × WorldItem
    pub stands : slice_get es p ≡ Some entry
    pub found : find text_cmp (key_text other k) (entries_meaning own es) ≡ Some (entry_meaning own entry.1)

  has-own : (k : WorldKey) (own_key : WorldKey) (is : IsKey own v own_key) → key_text other k ≡ key_text own own_key → (p : ℕ) → IsUnder own v own_key is es 0 p → HasOwn k p
  has-own k own_key is same p z = grind arith

  pub own-entry : (k : WorldKey) → IsKey other u k → (p : ℕ) → own_place_in m es k ≡ Some p → HasOwn k p
  own-entry (key.Name name) g p e = has-own (key.Name name) (key.Name name) g refl p
      (under own v (key.Name name) g es all 0 p (sym (position_from-zero (key_eq (key.Name name)) (map (λ (e : WorldKey × WorldItem). e.0) es)) ∙ e))
  own-entry (key.Interface id) g p e =
      let a = unpacked (λ (x : InterfaceId). position (key_eq (key.Interface x)) (map (λ (e : WorldKey × WorldItem). e.0) es)) (own_id m id.0) p e in
      let path = some-of (interface_path other id.0) g in
      let has = id-has id.0 path.0 path.1 a.0 a.1 in
      let is : is_some (interface_path own a.0.0) ≡ true = ap is_some has in
      has-own (key.Interface id) (key.Interface a.0) is (ap (λ (o : Option Text). unwrap_or o []) (path.1 ∙ sym has)) p
      (under own v (key.Interface a.0) is es all 0 p (sym (position_from-zero (key_eq (key.Interface a.0)) (map (λ (e : WorldKey × WorldItem). e.0) es)) ∙ a.2))

  pub no-own-entry : (k : WorldKey) → IsKey other u k → own_place_in m es k ≡ None → find text_cmp (key_text other k) (entries_meaning own es) ≡ None
  no-own-entry (key.Name name) g e = none-under own v (key.Name name) g es all 0 (sym (position_from-zero (key_eq (key.Name name)) (map (λ (e : WorldKey × WorldItem). e.0) es)) ∙ e)
  no-own-entry (key.Interface id) g e = by (own_id m id.0) refl e
    where
      path : (t : Text) × (interface_path other id.0 ≡ Some t)
      path = some-of (interface_path other id.0) g

      text : key_text other (key.Interface id) ≡ path.0
      text = ap (λ (o : Option Text). unwrap_or o []) path.1

      other-text : own_id m id.0 ≡ None → (k : WorldKey) → IsKey own v k → text_eq (key_text other (key.Interface id)) (key_text own k) ≡ false
      other-text f (key.Name s) lacks = keys-apart other u (key.Interface id) (key.Name s) g lacks refl
      other-text f (key.Interface j) is = same-or (text_eq (key_text other (key.Interface id)) (key_text own (key.Interface j))) refl
        where
          theirs : (t : Text) × (interface_path own j.0 ≡ Some t)
          theirs = some-of (interface_path own j.0) is

          same-or : (b : Bool) → text_eq (key_text other (key.Interface id)) (key_text own (key.Interface j)) ≡ b → b ≡ false
          same-or true t =
              let one : theirs.0 ≡ path.0 = sym (ap (λ (o : Option Text). unwrap_or o []) theirs.1) ∙ (sym (text-same (key_text other (key.Interface id)) (key_text own (key.Interface j)) t) ∙ text) in
              absurd (id-none id.0 path.0 path.1 f j.0 (theirs.1 ∙ ap Some one))
          same-or false t = refl

      by : (o : Option InterfaceId) → own_id m id.0 ≡ o → option_and_then (λ (x : InterfaceId). position (key_eq (key.Interface x)) (map (λ (e : WorldKey × WorldItem). e.0) es)) o ≡ None
          → find text_cmp (key_text other (key.Interface id)) (entries_meaning own es) ≡ None
      by None f none = no-entry own (key_text other (key.Interface id)) es (λ d c. other-text f d.0 (all d c))
      by (Some x) f none =
          let has = id-has id.0 path.0 path.1 x f in
          let is : is_some (interface_path own x.0) ≡ true = ap is_some has in
          ap (λ (t : Text). find text_cmp t (entries_meaning own es)) (ap (λ (o : Option Text). unwrap_or o []) (path.1 ∙ sym has)) ∙ none-under own v (key.Interface x) is es all 0
          (sym (position_from-zero (key_eq (key.Interface x)) (map (λ (e : WorldKey × WorldItem). e.0) es)) ∙ none)
