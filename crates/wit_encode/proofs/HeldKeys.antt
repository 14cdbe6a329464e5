-- The keys of functions whose lists maps hold.
use Rattle.std.proofs.Common.{rules as std_rules, ◌≡◌, refl, sym, subst, ap, ◌∙◌, ℕ, suc, ◌<◌, true, false, List, [], ◌∷◌, ◌++◌, map, length, get_or, arith, inl, inr}
use Rattle.std.proofs.lemmas.{List.Sorted.length_permutation, Cmp.on_equiv, Cmp.and_equiv, Cmp.lists_equiv, Map.Keys.IsDistinct-from_apart, Bool.cases_Bool}
use Rattle.std.specs.{Prelude.AllPairs, Prelude.IsPermutation, Set.is_member, Cmp.IsEquivalence, Cmp.bool_eq_equiv}
use Rattle.std.specs.{List.Contains, List.IsDistinct, List.AllZip, Cmp.Lexicographic.pointwise, Cmp.Lexicographic.options_equiv}
use Rattle.wit_model.specs.Text.{Text, text_of, text_eq}
use Rattle.wit_model.specs.declared.model.{Param.Param, Resolve.Resolve}
use Rattle.encode_types.specs.declared.{key.FunctionKey.FunctionKey, maps.TypeEncodingMaps.TypeEncodingMaps}
use Rattle.encode_types.specs.{Key.same_type, Key.same_param, Maps.IsSomeKeyList, Maps.IsOnce, Maps.NamesGrow, Maps.MapsAgree, Maps.by_key, Counts.key_slots}
use Rattle.encode_types.specs.{KeyLaws.type_equiv, KeyLaws.param_equiv, KeyLaws.text_same, Slots.Pairs, Slots.function, Maps.LearnsOnly, Maps.IsKnown}
use Rattle.encode_types.specs.Codes.{type_code, Names, IsTable, AreListed, IsListed, names_of, lists_of, ListKey}
use Rattle.encode_types.specs.Distinct.{Key, key_view, are_same, KnowsKey, signature_of_key, function_slots, StandForKeys}
use Rattle.comp_bytes.specs.Raw.{Declarations}
use Rattle.encode_types.proofs.{Lists.none-in, EqualLists.keys-of-lists, EqualLists.lists-of-keys, EqualLists.key-shrink, EqualLists.async-same as async-alike}
use Rattle.encode_types.proofs.{KindLaws.same_types, KindLaws.optional_same, Tables.key-grow}
use Rattle.base_lemmas.proofs.{Bools.left_of as first_true, Bools.right_of as second_true, Elements.any-at, Elements.any-contains as any-found, Elements.zip_at}
use Rattle.base_lemmas.proofs.Elements.{zip_at_right, zip_long, get-contains}
use Rattle.wit_model.proofs.Elements.{contains-get}
use Rattle.std.proofs.lemmas.Option.{slice_get-get_or, get_or_from_slice_get}

-- ---- keys and their lists

pub same_equiv : IsEquivalence are_same
same_equiv = and_equiv (on_equiv (λ k. k.is_async) bool_eq_equiv) (and_equiv (on_equiv (λ k. k.params) (lists_equiv param_equiv)) (on_equiv (λ k. k.result_type) (options_equiv type_equiv)))

abbrev pub HasList : Names → Key → List ℕ → Type 0
HasList names k xs = IsListed names k.is_async k.params k.result_type xs

abbrev as_key : Key → FunctionKey
as_key k = record { async_ = k.is_async; params = record { 0 = record { ref_ptr = (0, 0); now = k.params } }; result = record { ref_ptr = (0, 0); now = k.result_type } }

-- keys of one list are the same, and the same keys have one list
pub alike : (names : Names) (a b : Key) (xs : List ℕ) → IsTable names → HasList names a xs → HasList names b xs → are_same a b ≡ true
alike names a b xs t l k = keys-of-lists names (as_key a) (as_key b) xs xs t l k refl

lists-alike : (names : Names) (a b : Key) (xs ys : List ℕ) → IsTable names → HasList names a xs → HasList names b ys → are_same a b ≡ true → xs ≡ ys
lists-alike names a b xs ys t l k e = lists-of-keys names (as_key a) (as_key b) xs ys t l k e

-- by more names the list is the same, and by fewer, where it is the list of some key
pub grown : (names names' : Names) (k : Key) (xs : List ℕ) → NamesGrow names names' → HasList names k xs → HasList names' k xs
grown names names' k xs g l = key-grow names names' (as_key k) xs g l

pub shrunk : (names names' : Names) → IsTable names' → ((t : Text) (n : ℕ) → Contains names (t, n) → Contains names' (t, n)) → (a b : Key) (xs : List ℕ) → HasList names' a xs → HasList names b xs
    → HasList names a xs
shrunk names names' t g a b xs l k = key-shrink names names' t g (as_key a) (as_key b) xs l k

params-alike : (names : Names) (ps qs : List Param) (xs : List ℕ) → pointwise same_param ps qs ≡ true → AreListed names ps xs → AreListed names qs xs × (length ps ≡ length qs)
params-alike names [] [] xs e h = (h, refl)
params-alike names [] (q ∷ qs) xs e h = absurd cc
params-alike names (p ∷ ps) [] xs e h = absurd cc
params-alike names (p ∷ ps) (q ∷ qs) [] e h = absurd h
params-alike names (p ∷ ps) (q ∷ qs) (x ∷ []) e h = absurd h
params-alike names (p ∷ ps) (q ∷ qs) (x ∷ y ∷ xs) e h =
    let one = first_true (same_param p q) (pointwise same_param ps qs) e in
    let name = text_same _ _ (first_true (text_eq (text_of p.name) (text_of q.name)) (same_type p.ty q.ty) one) in
    let value = same_types p.ty q.ty (second_true (text_eq (text_of p.name) (text_of q.name)) (same_type p.ty q.ty) one) in
    let more = params-alike names ps qs xs (second_true (same_param p q) (pointwise same_param ps qs) e) h.2 in
    ((subst (λ w. Contains names (w, x)) name h.0, h.1 ∙ ap type_code value, more.0), ap suc more.1)

pub same-list : (names : Names) (a b : Key) (xs : List ℕ) → are_same a b ≡ true → HasList names a xs → HasList names b xs
same-list names a b xs e l = search (std_rules, second_true, async-alike, first_true, params-alike, optional_same)

-- ---- what maps hold

-- a key that is the same is known, too
pub knows-same : (m : TypeEncodingMaps) (a b : Key) → are_same a b ≡ true → KnowsKey m a → KnowsKey m b
knows-same m a b e (xs, i, l, c) = (xs, i, same-list (names_of m.names) a b xs e l, c)

-- maps with the same entries
pub knows-along : (m m' : TypeEncodingMaps) → m'.func_type_map.entries ≡ m.func_type_map.entries → m'.names.entries ≡ m.names.entries → (k : Key) → KnowsKey m k → KnowsKey m' k
knows-along m m' e n k (xs, i, l, c) = search std_rules

-- where there is no entry, no key is known
pub knows-none : (m : TypeEncodingMaps) (k : Key) → m.func_type_map.entries ≡ [] → KnowsKey m k → ⊥
knows-none m k e (xs, i, l, c) = none-in (xs, i) (subst (λ (es : List (ListKey × ℕ)). Contains (map {B = List ℕ × ℕ} (λ e. (e.0.0.items, e.1)) es) (xs, i)) e c)

-- where nothing was known, what is has been learnt
pub learnt-all : (P : ℕ → Type 0) (m m' : TypeEncodingMaps) → m.id_to_index.entries ≡ [] → LearnsOnly P m m' → (n : ℕ) → IsKnown m' n → P n
learnt-all P m m' empty only n known = elim (only.each n known.0 known.1) [ inl old ↦ none-in (n, known.0) (subst (λ (es : List (ℕ × ℕ)). Contains es (n, known.0)) empty old) | inr learnt ↦ learnt ]

-- ---- one key for each entry

abbrev pub AreKeysOf : Names → List Key → List (List ℕ × ℕ) → Type 0
AreKeysOf names ks es = AllZip (λ k e. HasList names k e.0) ks es

keys-at : (names : Names) (es : List (List ℕ × ℕ)) → ((xs : List ℕ) (i : ℕ) → Contains es (xs, i) → IsSomeKeyList names xs) → (ks : List Key) × AreKeysOf names ks es
keys-at names [] h = ([], tt)
keys-at names (e ∷ es) h =
    let x = h e.0 e.1 (0, omega arith, refl) in
    let more = keys-at names es (λ xs i c. h xs i (suc c.0, omega (arith, c.1), c.2)) in
    (key_view x.key ∷ more.0, (x.is, more.1))

module _ (names : Names) (ks : List Key) (es : List (List ℕ × ℕ)) (h : AreKeysOf names ks es) where
  key-at : (i : ℕ) (d : Key) (e : List ℕ × ℕ) → i < length ks → HasList names (get_or ks i d) (get_or es i e).0
  key-at i d e l =
      let x = zip_at (λ k e. HasList names k e.0) ks es h i (get_or ks i d) (slice_get-get_or ks i d l) in
      subst (λ (y : List ℕ × ℕ). HasList names (get_or ks i d) y.0) (sym (get_or_from_slice_get es i x.0 e x.1)) x.2

  key-there : (k : Key) → Contains ks k → (e : List ℕ × ℕ) × Contains es e × HasList names k e.0
  key-there k c =
      let at = contains-get ks k c in
      let x = zip_at (λ k e. HasList names k e.0) ks es h at.0 k at.1 in
      (x.0, get-contains es at.0 x.0 x.1, x.2)

  list-there : (e : List ℕ × ℕ) → Contains es e → (k : Key) × Contains ks k × HasList names k e.0
  list-there e c =
      let at = contains-get es e c in
      let x = zip_at_right (λ k e. HasList names k e.0) ks es h at.0 e at.1 in
      (x.0, get-contains ks at.0 x.0 x.1, x.2)

keys-apart : (names : Names) → IsTable names → (ks : List Key) (es : List (List ℕ × ℕ)) → AreKeysOf names ks es → AllPairs (λ x y. x.0 ≡ y.0 → ⊥) es → AllPairs (λ x y. are_same x y ≡ false) ks
keys-apart names t ks es h p i j d l n = elim (cases_Bool (are_same (get_or ks i d) (get_or ks j d))) [
  | inl e ↦ absurd (p i j none l (omega (arith, long, n))
      (lists-alike names (get_or ks i d) (get_or ks j d) (get_or es i none).0 (get_or es j none).0 t (key-at names ks es h i d none (omega (arith, l, n))) (key-at names ks es h j d none n) e))
  | inr e ↦ e
]
  where
    long : length ks ≡ length es
    long = zip_long (λ k e. HasList names k e.0) ks es h

    none : List ℕ × ℕ
    none = ([], 0)

-- These keys, no two of them the same, are those that the maps know.
pub record Keyed (m : TypeEncodingMaps) : Type 0 where
  pub keys : List Key
  pub lists : AreKeysOf (names_of m.names) keys (lists_of m.func_type_map)
  pub count : length keys ≡ length (lists_of m.func_type_map)
  pub different : IsDistinct are_same keys
  pub known : (q : Key) → is_member are_same keys q ≡ true → KnowsKey m q
  pub all : (q : Key) → KnowsKey m q → is_member are_same keys q ≡ true

pub keyed : (m : TypeEncodingMaps) → IsOnce m → Keyed m
keyed m once =
    let names = names_of m.names in
    let es = lists_of m.func_type_map in
    let made = keys-at names es once.key_lists in
    let ks = made.0 in
    record {
      keys = ks;
      lists = made.1;
      count = zip_long (λ k e. HasList names k e.0) ks es made.1;
      different = IsDistinct-from_apart are_same ks (keys-apart names once.names_.table ks es made.1 once.keys);
      known = λ q h.
          let found = any-found (are_same q) ks h in
          let there = key-there names ks es made.1 found.0 found.1 in
          (there.0.0, there.0.1, same-list names found.0 q there.0.0 (same_equiv.symm found.0 q ∙ found.2) there.2, there.1);
      all = λ q k.
          let there = list-there names ks es made.1 (k.0, k.1) k.3 in
          any-at (are_same q) ks there.0 there.1 (alike names q there.0 k.0 once.names_.table k.2 there.2);
    }

-- ---- the slots of keys

-- the slot of each key that is known
keys-stand : (r : Resolve) (m : TypeEncodingMaps) (S : Pairs) → MapsAgree r m S → (ks : List Key) (es : List (ListKey × ℕ))
    → AreKeysOf (names_of m.names) ks (map {B = List ℕ × ℕ} (λ e. (e.0.0.items, e.1)) es)
    → ((x : List ℕ × ℕ) → Contains (map {B = List ℕ × ℕ} (λ e. (e.0.0.items, e.1)) es) x → Contains (lists_of m.func_type_map) x)
    → AllZip (λ k i. S i (function (signature_of_key r k))) ks (map (λ e. e.1) es)
keys-stand r m S agree [] [] h known = tt
keys-stand r m S agree [] (x ∷ es) h known = absurd h
keys-stand r m S agree (k ∷ ks) [] h known = absurd h
keys-stand r m S agree (k ∷ ks) (x ∷ es) h known = (
  agree.says (by_key (as_key k)) x.1 (x.0.0.items, h.0, known (x.0.0.items, x.1) (0, omega arith, refl)),
  keys-stand r m S agree ks es h.1 (λ y c. known y (suc c.0, omega (arith, c.1), c.2)),
)

-- What has been defined for functions since the maps held no key: the type of each key that they hold, in its slot.
pub stand-for-keys : (r : Resolve) (S : Pairs) (m m' : TypeEncodingMaps) (k : Keyed m') (declared : Declarations) → MapsAgree r m' S → m.func_type_map.entries ≡ [] → (added : List ℕ)
    → function_slots declared ≡ added → IsPermutation (key_slots m ++ added) (key_slots m') → StandForKeys r S k.keys declared
stand-for-keys r S m m' k declared agree none added is p = record {
  slots = key_slots m';
  stand = keys-stand r m' S agree k.keys m'.func_type_map.entries k.lists (λ x c. c);
  all = subst (λ xs. IsPermutation xs (key_slots m')) (sym is) (subst (λ (es : List (ListKey × ℕ)). IsPermutation (map (λ e. e.1) es ++ added) (key_slots m')) none p);
}

-- there are as many of them as keys
pub slots-many : (r : Resolve) (S : Pairs) (m : TypeEncodingMaps) (k : Keyed m) (declared : Declarations) → StandForKeys r S k.keys declared → length (function_slots declared) ≡ length k.keys
slots-many r S m k declared s = sym (length_permutation (function_slots declared) s.slots s.all) ∙ sym (zip_long (λ k i. S i (function (signature_of_key r k))) k.keys s.slots s.stand)
