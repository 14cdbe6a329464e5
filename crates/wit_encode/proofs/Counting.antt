-- How much is defined for functions, and by an instance type as a whole.
use Rattle.std.proofs.Common.{rules as std_rules, ◌≡◌, refl, sym, subst, ap, ◌∙◌, ℕ, ◌+◌, ◌<◌, ◌≤◌, Bool, true, false, ◌||◌, ◌⊎◌, inl, inr, List, [], ◌∷◌, ◌++◌, length, get_or, take, map, filter, cond, length-append, append_assoc, append-nil, count_by, Result, Ok, Err, OnOk, Option, Some, None, slice_get, arith}
use Rattle.std.proofs.lemmas.{Bool.or_cases as either-one, Bool.or_left as or-first, Bool.or_right as or-second, Map.Keys.IsDistinct-from_apart}
use Rattle.std.proofs.lemmas.{Cmp.nat_eq_equiv, List.Folds.list_any-append, List.Kept.AllPairs-filter, List.Sums.length-filter, List.Sums.sum_by-append}
use Rattle.std.proofs.lemmas.{List.take_more, List.take_all, List.map-append, List.length-map, List.Elements.filter_passes, List.Elements.All-contains}
use Rattle.std.proofs.lemmas.List.Sorted.{list_any-IsPermutation, IsPermutation-map, length_permutation, sum_by-IsPermutation}
use Rattle.std.proofs.lemmas.Map.Made.{length-from_keys}
use Rattle.std.specs.{Prelude.nat_eq, Prelude.IsPermutation, Prelude.String, List.Contains, List.IsDistinct, List.filter_map, List.cons_option, Borrow.Bor}
use Rattle.std.specs.{Set.is_member, Set.distinct_count}
use Rattle.std.specs.declared.alloc.Global.{Global}
use Rattle.wit_model.specs.{Text.Text, Meaning.TypeMeaning, Meaning.FunctionMeaning, Lookup.place_of, Tree.Tree, Tree.Place, Valid.IsValid}
use Rattle.wit_model.specs.declared.model.{Resolve.Resolve, InterfaceId.InterfaceId, TypeId.TypeId, Function.Function}
use Rattle.comp_bytes.specs.Raw.{Declaration, Declarations, from_list}
use Rattle.comp_meaning.specs.Follow.{Slot, new_instance}
use Rattle.encode_types.specs.{Slots.Pairs, Slots.Standing, Slots.tree, MetKinds.referred, MetKinds.ReachedFrom, Key.IsKeyOf, Room.HoldsFor, Scope.Scope}
use Rattle.encode_types.specs.{Codes.IsTable, Codes.ListKey, Codes.names_of, Codes.lists_of, Maps.IsOnce, Maps.IsKnown, Maps.LearnsOnly, Maps.MapsAgree}
use Rattle.encode_types.specs.Counts.{Definitions, names_defined, is_defined_by_name, own_name, Shows, slots_of, named_slots, key_slots, AddsSlots, AddsKey, AddsTypes, AddsFunction}
use Rattle.encode_types.specs.Distinct.{Key, key_of, key_view, are_same, KnowsKey, defined_under_names, AddsFunctions, DefinesKeys, DefinesTypes, value_slots, function_slots, is_function_type}
use Rattle.encode_types.proofs.{Marking.slots-none, Marking.slots-then, Marking.more-then, Marking.same-keys, Marking.one-key-more, Pairs.pairs-map}
use Rattle.encode_types.proofs.{Tables.kept-in, Tables.new-in, Tables.one-more-in}
use Rattle.wit_encode.proofs.{Calls.inner-at, Mapped.contains-filter, Mapped.from-filter}
use Rattle.wit_encode.proofs.{ValueSlots.IsPlain, ValueSlots.inner-values, ValueSlots.slots-counted, DefinedTypes.HeldKinds, DefinedTypes.defines-types}
use Rattle.wit_encode.proofs.HeldKeys.{same_equiv, HasList, alike, grown, shrunk, knows-same, knows-along, knows-none, keyed, stand-for-keys, slots-many, learnt-all}
use Rattle.encode_types.specs.declared.{key.FunctionKey.FunctionKey, maps.TypeEncodingMaps.TypeEncodingMaps}
use Rattle.wit_encode.specs.declared.interface.{OpenInterface.OpenInterface, Foreign.Foreign}
use Rattle.wit_encode.specs.Instance.{contents_of, inner_contents, outer_slots, standing_at, SlotsStand, stands_inside, encoder_scope, definitions_with, held_in, opened, DeclaresFew, ShowsFunction}
use Rattle.base_lemmas.proofs.Bools.{both_ways as both-ways, or_false as or-none}
use Rattle.base_lemmas.proofs.Elements.{contains-map, map_from as from-map, member-there, there-member}
use Rattle.wit_model.specs.declared.model.TypeOwner.TheVariants as owner

-- ---- keys

key-is : (key : FunctionKey) (f : Function) → IsKeyOf key f → key_view key ≡ key_of f
key-is key f h = λ i. record { is_async = h.async i; params = h.params i; result_type = h.result_ i }

-- a key is that of a function alone
only-one : (f : Function) (q : Key) → is_member are_same (map key_of (f ∷ [])) q ≡ true → are_same q (key_of f) ≡ true
only-one f q e = sym (or-none (are_same q (key_of f))) ∙ e

one-alone : (f : Function) (q : Key) → are_same q (key_of f) ≡ true → is_member are_same (map key_of (f ∷ [])) q ≡ true
one-alone f q e = or-none (are_same q (key_of f)) ∙ e

-- the keys of functions and of others
members-both : (fs gs : List Function) (q : Key) → is_member are_same (map key_of (fs ++ gs)) q ≡ (is_member are_same (map key_of fs) q || is_member are_same (map key_of gs) q)
members-both fs gs q = ap (λ xs. is_member are_same xs q) (map-append key_of fs gs) ∙ list_any-append (are_same q) (map key_of fs) (map key_of gs)

none-member : (q : Key) → is_member are_same (map key_of []) q ≡ true → ⊥
none-member q h = cc

-- ---- what is added

pub names-alike : (r : Resolve) (s s' : Scope) (m : TypeEncodingMaps) → s'.own_interface ≡ s.own_interface → names_defined r s' m ≡ names_defined r s m
names-alike r s s' m e = search std_rules

pub adds-types : {r : Resolve} {scope : Scope} {m m' : TypeEncodingMaps} {d d' : Definitions} → AddsTypes r scope m m' d d' → AddsFunctions r scope m m' d d' []
adds-types {r} {scope} {m} {m'} {d} {d'} a = record {
  slots = a.slots;
  types_added = [];
  functions_ = a.functions ∙ sym (append-nil d.functions);
  keys_ = same-keys m m' a.keys.lists;
  known = λ q k. inl (knows-along m' m (sym a.keys.lists) (sym a.keys.names_) q k);
  stay = λ q k. knows-along m m' a.keys.lists a.keys.names_ q k;
  learnt = λ q h. absurd (none-member q h);
}

-- a key that was known
module _ (m m' : TypeEncodingMaps) (key : FunctionKey) (i : ℕ) (f : Function) (is : IsKeyOf key f) where
  learns-member : KnowsKey m' (key_view key) → (q : Key) → is_member are_same (map key_of (f ∷ [])) q ≡ true → KnowsKey m' q
  learns-member k q h = knows-same m' (key_view key) q (same_equiv.symm (key_view key) q ∙ ap (are_same q) (key-is key f is) ∙ only-one f q h) k

  -- a key that is new: by the list that it has now, and by more names
  module _ (once : IsOnce m) (a : AddsKey m m' key i) where
    table : IsTable (names_of m'.names)
    table = (a.grow.numbered once.names_).table

    new-known : (q : Key) → KnowsKey m' q → KnowsKey m q ⊎ (is_member are_same (map key_of (f ∷ [])) q ≡ true)
    new-known q (xs, j, l, c) = elim (one-more-in (lists_of m.func_type_map) (lists_of m'.func_type_map) (a.list, i) a.more (xs, j) c) [
      | inl old ↦
          let other = once.key_lists xs j old in
          inl (xs, j, shrunk (names_of m.names) (names_of m'.names) table a.grow.kept q (key_view other.key) xs l other.is, old)
      | inr e ↦
          let here : HasList (names_of m'.names) (key_view key) xs = subst (HasList (names_of m'.names) (key_view key)) (ap (λ (p : List ℕ × ℕ). p.0) e) a.is in
          inr (one-alone f q (sym (ap (are_same q) (key-is key f is)) ∙ alike (names_of m'.names) q (key_view key) xs table l here))
    ]

    new-stay : (q : Key) → KnowsKey m q → KnowsKey m' q
    new-stay q (xs, j, l, c) = (xs, j, grown (names_of m.names) (names_of m'.names) q xs a.grow l, kept-in (lists_of m.func_type_map) (lists_of m'.func_type_map) (a.list, i) a.more (xs, j) c)

    new-learnt : KnowsKey m' (key_view key)
    new-learnt = (a.list, i, a.is, new-in (lists_of m.func_type_map) (lists_of m'.func_type_map) (a.list, i) a.more)

pub adds-function : {r : Resolve} {scope : Scope} {m m' : TypeEncodingMaps} {d d' : Definitions} (key : FunctionKey) (i : ℕ) (f : Function) → IsKeyOf key f → IsOnce m
    → AddsFunction r scope m m' d d' key i → AddsFunctions r scope m m' d d' (f ∷ [])
adds-function {r} {scope} {m} {m'} {d} {d'} key i f is once a = elim a.keys [
  | inl h ↦ record {
    slots = a.slots;
    types_added = [];
    functions_ = h.2 ∙ sym (append-nil d.functions);
    keys_ = same-keys m m' h.1.lists;
    known = λ q k. inl (knows-along m' m (sym h.1.lists) (sym h.1.names_) q k);
    stay = λ q k. knows-along m m' h.1.lists h.1.names_ q k;
    learnt = λ q k. learns-member m m' key i f is (knows-along m m' h.1.lists h.1.names_ (key_view key) (h.0.0, i, h.0.1, h.0.2)) q k;
  }
  | inr h ↦ record {
    slots = a.slots;
    types_added = i ∷ [];
    functions_ = h.2;
    keys_ = one-key-more m m' h.1.list i h.1.more;
    known = λ q k. new-known m m' key i f is once h.1 q k;
    stay = λ q k. new-stay m m' key i f is once h.1 q k;
    learnt = λ q k. learns-member m m' key i f is (new-learnt m m' key i f is once h.1) q k;
  }
]

pub adds-nothing : (r : Resolve) (scope : Scope) (m : TypeEncodingMaps) (d : Definitions) → AddsFunctions r scope m m d d []
adds-nothing r scope m d =
    let slots = slots-none r scope m m d d refl refl refl refl in
    record { slots = slots; types_added = []; functions_ = sym (append-nil d.functions); keys_ = same-keys m m refl; known = λ q k. inl k; stay = λ q k. k; learnt = λ q h. absurd (none-member q h) }

-- what has been defined is the same by a scope of the same interface
slots-alike : {r : Resolve} {s s' : Scope} {m m' : TypeEncodingMaps} {d d' : Definitions} → s'.own_interface ≡ s.own_interface → AddsSlots r s' m m' d d' → AddsSlots r s m m' d d'
slots-alike {r} {s} {s'} {m} {m'} {d} {d'} o p =
    let names = ap (λ (n : ℕ). length (named_slots p.added) + n) (sym (names-alike r s s' m o)) ∙ p.names ∙ names-alike r s s' m' o in
    record { added = p.added; targets = p.targets; types = p.types; exported = p.exported; kinds = p.kinds; names = names; own = p.own; others = p.others; numbers_stay = p.numbers_stay }

pub adds-trans : {r : Resolve} {s s' : Scope} {a b c : TypeEncodingMaps} {d e f : Definitions} (fs gs : List Function) → s'.own_interface ≡ s.own_interface
    → AddsFunctions r s a b d e fs → AddsFunctions r s' b c e f gs → AddsFunctions r s a c d f (fs ++ gs)
adds-trans {r} {s} {s'} {a} {b} {c} {d} {e} {f} fs gs o p q = record {
  slots = slots-then p.slots (slots-alike o q.slots);
  types_added = p.types_added ++ q.types_added;
  functions_ = q.functions_ ∙ ap (λ xs. xs ++ q.types_added) p.functions_ ∙ append_assoc d.functions p.types_added q.types_added;
  keys_ = more-then (key_slots a) (key_slots b) (key_slots c) p.types_added q.types_added p.keys_ q.keys_;
  known = λ k h. elim (q.known k h) [
    | inl x ↦ elim (p.known k x) [ inl y ↦ inl y | inr y ↦ inr (members-both fs gs k ∙ or-first (is_member are_same (map key_of fs) k) (is_member are_same (map key_of gs) k) y) ]
    | inr x ↦ inr (members-both fs gs k ∙ or-second (is_member are_same (map key_of fs) k) (is_member are_same (map key_of gs) k) x)
  ];
  stay = λ k h. q.stay k (p.stay k h);
  learnt = λ k h. elim (either-one (is_member are_same (map key_of fs) k) (is_member are_same (map key_of gs) k) (sym (members-both fs gs k) ∙ h)) [
    | inl x ↦ q.stay k (p.learnt k x)
    | inr x ↦ q.learnt k x
  ];
}

-- the same of what counts alike
pub adds-alike : {r : Resolve} {s s' : Scope} {m m' m'' : TypeEncodingMaps} {d d' e e' : Definitions} {fs : List Function} → s'.own_interface ≡ s.own_interface
    → m'' ≡ m' → e.types ≡ d.types → e.exported ≡ d.exported → e.functions ≡ d.functions → e'.types ≡ d'.types → e'.exported ≡ d'.exported → e'.functions ≡ d'.functions
    → AddsFunctions r s m m' d d' fs → AddsFunctions r s' m m'' e e' fs
adds-alike {r} {s} {s'} {m} {m'} {m''} {d} {d'} {e} {e'} {fs} o h a x b a' x' b' p = subst (λ (z : TypeEncodingMaps). AddsFunctions r s' m z e e' fs) (sym h) (
    let q : AddsSlots r s' m m' d d' = slots-alike (sym o) p.slots in
    record {
      slots =
          let types = a' ∙ q.types ∙ ap (λ xs. xs ++ slots_of q.added) (sym a) in
          let exported = x' ∙ q.exported ∙ ap (λ xs. xs ++ slots_of q.targets) (sym x) in
          record { added = q.added; targets = q.targets; types = types; exported = exported; kinds = q.kinds; names = q.names; own = q.own; others = q.others; numbers_stay = q.numbers_stay };
      types_added = p.types_added;
      functions_ = b' ∙ p.functions_ ∙ ap (λ xs. xs ++ p.types_added) (sym b);
      keys_ = p.keys_;
      known = p.known;
      stay = p.stay;
      learnt = p.learnt;
    })

-- ---- an instance type as a whole

-- the maps of a scope that began with none
pub record Began (m : TypeEncodingMaps) : Type 0 where
  pub numbers : m.id_to_index.entries ≡ []
  pub kinds : m.def_to_index.entries ≡ []
  pub keys : m.func_type_map.entries ≡ []

defines-keys : (r : Resolve) (S : Pairs) (scope : Scope) (m m' : TypeEncodingMaps) (d d' : Definitions) (fs : List Function) (ds : List Declaration) → Began m
    → d.functions ≡ [] → d'.functions ≡ function_slots (from_list ds) → AddsFunctions r scope m m' d d' fs → MapsAgree r m' S → DefinesKeys r S fs ds
defines-keys r S scope m m' d d' fs ds b z n a agree =
    let k = keyed m' agree.once in
    let slots = stand-for-keys r S m m' k (from_list ds) agree b.keys a.types_added (sym n ∙ a.functions_ ∙ ap (λ xs. xs ++ a.types_added) z) a.keys_ in
    record {
      keys = k.keys;
      count = sym (slots-counted is_function_type 0 ds) ∙ slots-many r S m' k (from_list ds) slots;
      slots = slots;
      different = k.different;
      same = λ q. both-ways (is_member are_same k.keys q) (is_member are_same (map key_of fs) q)
          (λ h. elim (a.known q (k.known q h)) [ inl c ↦ absurd (knows-none m q b.keys c) | inr c ↦ c ]) (λ h. k.all q (a.learnt q h));
    }

-- as many keys of functions are known as types of functions have been defined
keys-known : (r : Resolve) (scope : Scope) (m m' : TypeEncodingMaps) (d d' : Definitions) (fs : List Function) (ds : List Declaration) → Began m
    → d.functions ≡ [] → d'.functions ≡ function_slots (from_list ds) → AddsFunctions r scope m m' d d' fs → length m'.func_type_map.entries ≡ count_by is_function_type ds
keys-known r scope m m' d d' fs ds b z n a =
    let both = length-append d.functions a.types_added in
    let sum = length-append (key_slots m) a.types_added in
    let known = length-map m.func_type_map.entries (λ (e : ListKey × ℕ). e.1) in
    let after = length-map m'.func_type_map.entries (λ (e : ListKey × ℕ). e.1) in
    let c = length_permutation (key_slots m ++ a.types_added) (key_slots m') a.keys_ in
    omega (arith, ap length z, ap length b.keys, ap length (sym n ∙ a.functions_), slots-counted is_function_type 0 ds, both, sum, known, after, c)

pub record Counted (r : Resolve) (i : InterfaceId) (S : Pairs) (m' : TypeEncodingMaps) (fs : List Function) (ts : List TypeId) (ds : List Declaration) : Type 0 where
  pub keys : DefinesKeys r S fs ds
  pub known : length m'.func_type_map.entries ≡ count_by is_function_type ds
  pub types : DefinesTypes r (Some i) S ts fs (from_list ds)

-- what slots stand for is one thing each
pub slots-once : (slots : List Slot) (i : ℕ) (s t : Standing) → SlotsStand slots i s → SlotsStand slots i t → s ≡ t
slots-once slots i s t a b = cc (sym a ∙ b)

-- where a value type is defined stands a type without a name
values-plain : (place : Place) (outer : Declarations) (ds : List Declaration) → (inner_contents place outer ds).is_followed ≡ true → (i : ℕ) → Contains (value_slots (from_list ds)) i → (t : Tree)
    × SlotsStand (inner_contents place outer ds).slots i (tree t) × IsPlain t
values-plain place outer ds followed i c =
    let a = inner-at place outer ds followed in
    let p = inner-values place (outer_slots outer) new_instance a.scope ds i a.is c in
    (p.type_there, ap (λ (zs : List Slot). standing_at (slice_get zs i)) a.slots ∙ ap standing_at p.there, p.plain)

pub closed-counts : (r : Resolve) → IsValid r → (outer outer' : Declarations) (i : InterfaceId) (known : Foreign) (inner' : Option OpenInterface) (current : OpenInterface) (m m' : TypeEncodingMaps)
    (fs : List Function) (ts : List TypeId) → inner' ≡ Some current → Began m → HeldKinds r (Some i) (referred ts fs) m'
    → AddsFunctions r (encoder_scope r outer (opened i known)) m m' (definitions_with (contents_of r outer (opened i known))) (definitions_with (contents_of r outer' inner')) fs
    → MapsAgree r m' (stands_inside r i outer' current.declared) → (inner_contents (place_of r (owner.Interface i)) outer' current.declared).is_followed ≡ true
    → names_defined r (encoder_scope r outer (opened i known)) m' ≡ distinct_count nat_eq (defined_under_names r (Some i) ts)
    → Counted r i (stands_inside r i outer' current.declared) m' fs ts current.declared
unfolding inner_contents
closed-counts r v outer outer' i known inner' current m m' fs ts is b held a agree followed defined = record {
  keys = defines-keys r (stands_inside r i outer' current.declared) (encoder_scope r outer (opened i known)) m m' (definitions_with (contents_of r outer (opened i known)))
      (definitions_with (contents_of r outer' inner')) fs current.declared b refl (ap (λ (o : Option OpenInterface). (contents_of r outer' o).functions) is) a agree;
  known = keys-known r (encoder_scope r outer (opened i known)) m m' (definitions_with (contents_of r outer (opened i known))) (definitions_with (contents_of r outer' inner')) fs current.declared b
      refl (ap (λ (o : Option OpenInterface). (contents_of r outer' o).functions) is) a;
  types = defines-types r v (Some i) (encoder_scope r outer (opened i known)) (stands_inside r i outer' current.declared) m m' (definitions_with (contents_of r outer (opened i known)))
      (definitions_with (contents_of r outer' inner')) ts fs (from_list current.declared) a.slots agree (slots-once _) (values-plain (place_of r (owner.Interface i)) outer' current.declared followed)
      (sym (ap (λ (o : Option OpenInterface). (contents_of r outer' o).types) is) ∙ a.slots.types) (sym (ap (λ (o : Option OpenInterface). (contents_of r outer' o).exported) is) ∙ a.slots.exported)
      b.numbers b.kinds held defined;
}

-- it has no more declarations than it was asked to have
pub declares-few : (r : Resolve) (i : InterfaceId) (ts : List TypeId) (fs : List (ℕ × Bor (String Global) × Bor Function)) (m m' : TypeEncodingMaps) (outer' : Declarations)
    (inner' : Option OpenInterface) (ds : List Declaration) (current : OpenInterface) → Began m → ds ≡ [] → inner' ≡ Some current
    → LearnsOnly (ReachedFrom r (Some i) (referred ts (map (λ f. f.2.now) fs))) m m' → HoldsFor r (Some i) m m' (length ds) (held_in outer' inner') (length fs)
    → length m'.func_type_map.entries ≡ count_by is_function_type current.declared → DeclaresFew r (Some i) ts (map (λ f. f.2.now) fs) current.declared
declares-few r i ts fs m m' outer' inner' ds current b none is only h keys = record {
  numbers = h.numbers;
  apart = h.new.apart;
  met = λ n c. learnt-all (ReachedFrom r (Some i) (referred ts (map (λ f. f.2.now) fs))) m m' b.numbers only n (h.known n c);
  few =
      let at : held_in outer' inner' ≡ length current.declared = ap (held_in outer') is in
      omega (arith, h.held, at, ap length none, ap length b.keys, length-map fs (λ (f : ℕ × Bor (String Global) × Bor Function). f.2.now), keys);
}

-- the keys of functions in another order
permuted-same : {r : Resolve} {S : Pairs} (fs gs : List Function) (ds : List Declaration) → IsPermutation fs gs → (h : DefinesKeys r S gs ds) (q : Key)
    → is_member are_same h.keys q ≡ is_member are_same (map key_of fs) q
permuted-same fs gs ds p h q = h.same q ∙ sym (list_any-IsPermutation (are_same q) (map key_of fs) (map key_of gs) (IsPermutation-map key_of fs gs p))

pub permuted-keys : {r : Resolve} {S : Pairs} (fs gs : List Function) (ds : List Declaration) → IsPermutation fs gs → DefinesKeys r S gs ds → DefinesKeys r S fs ds
permuted-keys fs gs ds p h = record { keys = h.keys; count = h.count; different = h.different; same = permuted-same fs gs ds p h; slots = h.slots }

pub count-keys : {r : Resolve} {S : Pairs} (fs gs : List Function) (ds : List Declaration) → IsPermutation fs gs → DefinesKeys r S gs ds
    → count_by is_function_type ds ≡ distinct_count are_same (map key_of fs)
count-keys fs gs ds p h = h.count ∙ length-from_keys same_equiv h.keys (map key_of fs) h.different (permuted-same fs gs ds p h)

-- ---- the calls of an encoder of interfaces

-- a function: its type, and then its export, which defines nothing
pub function-counted : {A E : Type 0} (res : Result A E) (r r₀ r₁ r₂ : Resolve) (o₀ o₁ o₂ : Declarations) (i₀ i₁ i₂ : Option OpenInterface) (m₀ m₁ m₂ : TypeEncodingMaps) (f : Function)
    (g : Text × FunctionMeaning) (index : ℕ) → IsOnce m₀ → r₀ ≡ r → encoder_scope r₁ o₁ i₁ ≡ encoder_scope r₀ o₀ i₀ → r₂ ≡ r₁ → m₂ ≡ m₁ → (key : FunctionKey) × IsKeyOf key f
    × AddsFunction r (encoder_scope r₀ o₀ i₀) m₀ m₁ (definitions_with (contents_of r₀ o₀ i₀)) (definitions_with (contents_of r₁ o₁ i₁)) key index
    → OnOk res (ShowsFunction (contents_of r₁ o₁ i₁) (contents_of r₂ o₂ i₂) g)
    → OnOk res (AddsFunctions r (encoder_scope r o₀ i₀) m₀ m₂ (definitions_with (contents_of r o₀ i₀)) (definitions_with (contents_of r o₂ i₂)) (f ∷ []))
function-counted (Err e) r r₀ r₁ r₂ o₀ o₁ o₂ i₀ i₁ i₂ m₀ m₁ m₂ f g index once e₀ s e₂ em (key, is, a) shown = shown
function-counted (Ok x) r r₀ r₁ r₂ o₀ o₁ o₂ i₀ i₁ i₂ m₀ m₁ m₂ f g index once e₀ s e₂ em (key, is, a) shown =
    let here : r₂ ≡ r = e₂ ∙ (ap (λ (z : Scope). z.packages) s ∙ e₀) in
    adds-alike refl em (ap (λ (z : Resolve). (contents_of z o₀ i₀).types) (sym e₀)) (ap (λ (z : Resolve). (contents_of z o₀ i₀).exported) (sym e₀))
    (ap (λ (z : Resolve). (contents_of z o₀ i₀).functions) (sym e₀))
    (ap (λ (z : Resolve). (contents_of z o₂ i₂).types) (sym here) ∙ shown.types) (ap (λ (z : Resolve). (contents_of z o₂ i₂).exported) (sym here) ∙ shown.exported)
    (ap (λ (z : Resolve). (contents_of z o₂ i₂).functions) (sym here) ∙ shown.functions) (adds-function key index f is once a)

-- types, and then functions
pub parts-counted : {A E : Type 0} (res : Result A E) (r r₀ r₁ : Resolve) (o₀ o₁ o₂ : Declarations) (i₀ i₁ i₂ : Option OpenInterface) (m₀ m₁ m₂ : TypeEncodingMaps) (fs : List Function) → r₀ ≡ r
    → encoder_scope r₁ o₁ i₁ ≡ encoder_scope r₀ o₀ i₀ → AddsTypes r (encoder_scope r₀ o₀ i₀) m₀ m₁ (definitions_with (contents_of r₀ o₀ i₀)) (definitions_with (contents_of r₁ o₁ i₁))
    → OnOk res (AddsFunctions r (encoder_scope r o₁ i₁) m₁ m₂ (definitions_with (contents_of r o₁ i₁)) (definitions_with (contents_of r o₂ i₂)) fs)
    → OnOk res (AddsFunctions r (encoder_scope r o₀ i₀) m₀ m₂ (definitions_with (contents_of r o₀ i₀)) (definitions_with (contents_of r o₂ i₂)) fs)
parts-counted (Err e) r r₀ r₁ o₀ o₁ o₂ i₀ i₁ i₂ m₀ m₁ m₂ fs e₀ s a b = b
parts-counted (Ok x) r r₀ r₁ o₀ o₁ o₂ i₀ i₁ i₂ m₀ m₁ m₂ fs e₀ s a b =
    let e₁ : r₁ ≡ r = ap (λ (z : Scope). z.packages) s ∙ e₀ in
    adds-trans [] fs (ap (λ (z : Scope). z.own_interface) s) (adds-alike refl refl (ap (λ (z : Resolve). (contents_of z o₀ i₀).types) (sym e₀))
    (ap (λ (z : Resolve). (contents_of z o₀ i₀).exported) (sym e₀)) (ap (λ (z : Resolve). (contents_of z o₀ i₀).functions) (sym e₀)) (ap (λ (z : Resolve). (contents_of z o₁ i₁).types) (sym e₁))
    (ap (λ (z : Resolve). (contents_of z o₁ i₁).exported) (sym e₁)) (ap (λ (z : Resolve). (contents_of z o₁ i₁).functions) (sym e₁)) (adds-types a))
    b

-- one function more
pub functions-counted : {r : Resolve} {s s' : Scope} {a b c : TypeEncodingMaps} {d e f : Definitions} {X : Type 0} (view : X → Function) (xs : List X) (i : ℕ)
    (x : X) → i < length xs → x ≡ get_or xs i x → s'.own_interface ≡ s.own_interface
    → AddsFunctions r s a b d e (map view (take i xs)) → AddsFunctions r s' b c e f (view x ∷ []) → AddsFunctions r s a c d f (map view (take (i + 1) xs))
functions-counted {r} {s} {s'} {a} {b} {c} {d} {e} {f} view xs i x l is own p q = subst (AddsFunctions r s a c d f) (ap (λ y. map view (take i xs) ++ view y ∷ []) is
    ∙ sym (ap (map view) (take_more xs i x l) ∙ map-append view (take i xs) (get_or xs i x ∷ []))) (adds-trans (map view (take i xs)) (view x ∷ []) own p q)

-- all of them
pub functions-all : {r : Resolve} {s : Scope} {a b : TypeEncodingMaps} {d e : Definitions} {X : Type 0} (view : X → Function) (xs : List X) (i : ℕ)
    → length xs ≤ i → AddsFunctions r s a b d e (map view (take i xs)) → AddsFunctions r s a b d e (map view xs)
functions-all {r} {s} {a} {b} {d} {e} view xs i l p = subst (λ ys. AddsFunctions r s a b d e (map view ys)) (take_all i xs l) p

-- ---- which named types have been defined

-- what is defined under a name is shown under it
shown-where-defined : (r : Resolve) (scope : Scope) (n : ℕ) → is_defined_by_name r scope n ≡ true → own_name r scope n ≡ None → ⊥
shown-where-defined r scope n = search std_rules

-- where these types are known, and no other named type of the place is, those of them that have a definition of their own are counted once each
pub exact-names : (r : Resolve) (scope : Scope) (m : TypeEncodingMaps) (types : List TypeId) → IsOnce m → ((t : TypeId) → Contains types t → IsKnown m t.0)
    → ((t : TypeId) (i : ℕ) → Contains m.id_to_index.entries (t.0, i) → (own_name r scope t.0 ≡ None) ⊎ Contains types t)
    → names_defined r scope m ≡ distinct_count nat_eq (defined_under_names r scope.own_interface types)
exact-names r scope m types once known alone = sym (length-map (filter test m.id_to_index.entries) number ∙ length-filter test m.id_to_index.entries)
    ∙ length-from_keys nat_eq_equiv names own distinct (λ q. both-ways (is_member nat_eq names q) (is_member nat_eq own q)
    (λ h. there-member own q (listed q (from-map number (filter test m.id_to_index.entries) q (member-there names q h))))
    (λ h. there-member names q (learnt q (from-map (λ (t : TypeId). t.0) (filter at types) q (member-there own q h)))))
  where
    number : ℕ × ℕ → ℕ
    number e = e.0

    test : ℕ × ℕ → Bool
    test e = is_defined_by_name r scope e.0

    at : TypeId → Bool
    at t = is_defined_by_name r scope t.0

    names : List ℕ
    names = map number (filter test m.id_to_index.entries)

    own : List ℕ
    own = map (λ t. t.0) (filter at types)

    distinct : IsDistinct nat_eq names
    distinct = IsDistinct-from_apart nat_eq names (pairs-map number (λ x y. nat_eq x y ≡ false) (filter test m.id_to_index.entries)
        (AllPairs-filter (λ x y. nat_eq x.0 y.0 ≡ false) test m.id_to_index.entries once.numbers))

    listed : (q : ℕ) → (x : ℕ × ℕ) × Contains (filter test m.id_to_index.entries) x × (number x ≡ q) → Contains own q
    listed q (x, c, e) =
        let passed : test x ≡ true = All-contains (λ (y : ℕ × ℕ). test y ≡ true) (filter test m.id_to_index.entries) x (filter_passes test m.id_to_index.entries) c in
        elim (alone (record { 0 = x.0 }) x.1 (from-filter test m.id_to_index.entries x c)) [
          | inl none ↦ absurd (shown-where-defined r scope x.0 passed none)
          | inr there ↦ subst (Contains own) e (contains-map (λ (t : TypeId). t.0) (filter at types) (record { 0 = x.0 }) (contains-filter at types (record { 0 = x.0 }) passed there))
        ]

    learnt : (q : ℕ) → (t : TypeId) × Contains (filter at types) t × (t.0 ≡ q) → Contains names q
    learnt q (t, c, e) =
        let passed : at t ≡ true = All-contains (λ (y : TypeId). at y ≡ true) (filter at types) t (filter_passes at types) c in
        let k = known t (from-filter at types t c) in
        subst (Contains names) e (contains-map number (filter test m.id_to_index.entries) (t.0, k.0) (contains-filter test m.id_to_index.entries (t.0, k.0) passed k.1))

-- what exports nothing defines nothing under a name
unshown-undefined : (r : Resolve) (scope : Scope) (es : List (ℕ × ℕ)) → filter_map (λ e. own_name r scope e.0) es ≡ [] → count_by (λ e. is_defined_by_name r scope e.0) es ≡ 0
unshown-undefined r scope [] h = refl
unshown-undefined r scope (e ∷ es) h = sum_by-append (λ (x : ℕ × ℕ). cond (is_defined_by_name r scope x.0) 1 0) (e ∷ []) es
    ∙ go (own_name r scope e.0) (is_defined_by_name r scope e.0) refl refl h (unshown-undefined r scope es)
  where
    go : (o : Option Text) (b : Bool) → own_name r scope e.0 ≡ o → is_defined_by_name r scope e.0 ≡ b → cons_option o (filter_map (λ e. own_name r scope e.0) es) ≡ []
        → (filter_map (λ e. own_name r scope e.0) es ≡ [] → count_by (λ e. is_defined_by_name r scope e.0) es ≡ 0) → 0 + cond b 1 0 + count_by (λ e. is_defined_by_name r scope e.0) es ≡ 0
    go (Some name) b n d h rest = absurd cc
    go None true n d h rest = absurd (shown-where-defined r scope e.0 d n)
    go None false n d h rest = omega (arith, rest h)

names-unchanged : (r : Resolve) (scope : Scope) (m m' : TypeEncodingMaps) (d d' : Definitions) → Shows r scope m m' d d' → d'.exports ≡ d.exports → names_defined r scope m' ≡ names_defined r scope m
names-unchanged r scope m m' d d' s same =
    let test : ℕ × ℕ → Bool = λ e. is_defined_by_name r scope e.0 in
    let none : s.shown ≡ [] = no-more d.exports s.shown (sym s.exports ∙ same) in
    let sum : names_defined r scope m' ≡ names_defined r scope m + count_by test s.learnt =
    sum_by-IsPermutation (λ e. cond (test e) 1 0) (m.id_to_index.entries ++ s.learnt) m'.id_to_index.entries s.numbers ∙ sum_by-append (λ e. cond (test e) 1 0) m.id_to_index.entries s.learnt in
    omega (arith, unshown-undefined r scope s.learnt (sym s.names ∙ ap (map (λ (x : Text × TypeMeaning). x.0)) none))
  where
    no-more : {X : Type 0} (xs ys : List X) → xs ++ ys ≡ xs → ys ≡ []
    no-more xs [] e = refl
    no-more xs (y ∷ ys) e = absurd (omega (arith, sym (length-append xs (y ∷ ys)) ∙ ap length e))

-- a function, which exports no type
pub function-names : {A E : Type 0} (res : Result A E) (r r₀ r₁ r₂ : Resolve) (o₀ o₁ o₂ : Declarations) (i₀ i₁ i₂ : Option OpenInterface) (m₀ m₁ m₂ : TypeEncodingMaps) (g : Text × FunctionMeaning)
    → r₀ ≡ r → encoder_scope r₁ o₁ i₁ ≡ encoder_scope r₀ o₀ i₀ → r₂ ≡ r₁ → m₂ ≡ m₁
    → Shows r (encoder_scope r₀ o₀ i₀) m₀ m₁ (definitions_with (contents_of r₀ o₀ i₀)) (definitions_with (contents_of r₁ o₁ i₁))
    → OnOk res (ShowsFunction (contents_of r₁ o₁ i₁) (contents_of r₂ o₂ i₂) g) → OnOk res ((definitions_with (contents_of r o₂ i₂)).exports ≡ (definitions_with (contents_of r o₀ i₀)).exports)
    → OnOk res (names_defined r (encoder_scope r o₀ i₀) m₂ ≡ names_defined r (encoder_scope r o₀ i₀) m₀)
function-names (Err e) r r₀ r₁ r₂ o₀ o₁ o₂ i₀ i₁ i₂ m₀ m₁ m₂ g e₀ s e₂ em shows shown stays = stays
function-names (Ok x) r r₀ r₁ r₂ o₀ o₁ o₂ i₀ i₁ i₂ m₀ m₁ m₂ g e₀ s e₂ em shows shown stays =
    let here : r₂ ≡ r = e₂ ∙ (ap (λ (z : Scope). z.packages) s ∙ e₀) in
    ap (names_defined r (encoder_scope r₀ o₀ i₀)) em ∙ names-unchanged r (encoder_scope r₀ o₀ i₀) m₀ m₁ (definitions_with (contents_of r₀ o₀ i₀)) (definitions_with (contents_of r₁ o₁ i₁)) shows
    (sym (ap (map (λ t. (t.name, t.meaning))) shown.types_shown) ∙ (ap (λ (z : Resolve). (definitions_with (contents_of z o₂ i₂)).exports) here
    ∙ (stays ∙ ap (λ (z : Resolve). (definitions_with (contents_of z o₀ i₀)).exports) (sym e₀))))

-- types, and then functions, which define nothing under a name
pub parts-named : {A E : Type 0} (res : Result A E) (r r₀ r₁ : Resolve) (o₀ o₁ : Declarations) (i₀ i₁ : Option OpenInterface) (m₁ m₂ : TypeEncodingMaps) (n : ℕ)
    → encoder_scope r₁ o₁ i₁ ≡ encoder_scope r₀ o₀ i₀ → names_defined r (encoder_scope r₀ o₀ i₀) m₁ ≡ n
    → OnOk res (names_defined r (encoder_scope r o₁ i₁) m₂ ≡ names_defined r (encoder_scope r o₁ i₁) m₁) → OnOk res (names_defined r (encoder_scope r o₀ i₀) m₂ ≡ n)
parts-named x r y u v w p q t a n s h stays = search std_rules

pub names-after : (r : Resolve) (s s' : Scope) (a b c : TypeEncodingMaps) → s'.own_interface ≡ s.own_interface → names_defined r s b ≡ names_defined r s a
    → names_defined r s' c ≡ names_defined r s' b → names_defined r s c ≡ names_defined r s a
names-after r s s' a b c own p q = sym (names-alike r s s' c own) ∙ (q ∙ (names-alike r s s' b own ∙ p))
