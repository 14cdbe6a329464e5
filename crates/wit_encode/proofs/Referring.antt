-- What the types and functions of an interface meet, and what maps learn of it, type by type and function by function.
use Rattle.encode_types.specs.{Aliases.AliasesMet, Known.Around}
use Rattle.encode_types.proofs.{Aliasing.met-more, Lists.none-in}
use Rattle.std.proofs.Common.{rules as std_rules, ◌≡◌, sym, subst, ap, ◌∙◌, ℕ, ◌+◌, ◌<◌, ◌≤◌, true, ◌&&◌, inl, inr, List, [], ◌∷◌, ◌++◌, map, take, length, get_or, Option, option_to_list, Result, OnOk, arith}
use Rattle.std.proofs.{lemmas.Grind.flat_map-append, Common.append-nil}
use Rattle.std.proofs.{lemmas.List.take_more, lemmas.List.take_all, lemmas.List.map-append, lemmas.List.Sorted.IsPermutation-sym, lemmas.List.Sorted.length_permutation}
use Rattle.std.proofs.lemmas.List.Elements.{Contains-append_left, Contains-append_right, Contains-append_cases}
use Rattle.std.specs.{Prelude.IsPermutation, Prelude.flat_map, List.Contains, Option.option_eq, Cmp.Lexicographic.pointwise}
use mathlib.Core.Bool.{beq}
use Rattle.wit_model.specs.{Parts.function_types, Valid.IsValid}
use Rattle.wit_model.specs.declared.model.{Resolve.Resolve, Function.Function, TypeDefKind.TypeDefKind, InterfaceId.InterfaceId, «Type».«Type» as ValueType}
use Rattle.wit_model.specs.declared.model.TypeId.{TypeId}
use Rattle.comp_bytes.specs.Raw.{Declaration, Declarations}
use Rattle.wit_encode.specs.{Instance.DeclaresFew, Exports.AllKnown}
use Rattle.encode_types.specs.{Slots.Pairs, Scope.Scope, Plan.Reaches, Key.same_type, Key.same_param, Maps.IsKnown, Maps.AllReady, Maps.IsOnce, Codes.names_of, Codes.ListKey, Counts.Definitions, Distinct.key_of, Distinct.key_view, Distinct.are_same, Distinct.AddsFunctions, Distinct.DefinesTypes}
use Rattle.encode_types.specs.MetKinds.{referred, IsMetKind, AreMetKinds, LearnsMet, LearnsFrom, key_types}
use Rattle.encode_types.specs.declared.{key.FunctionKey.FunctionKey, maps.TypeEncodingMaps.TypeEncodingMaps}
use Rattle.encode_types.proofs.{KindLaws.optional_same, Encoding.meets-reaches, Encoding.learns-nothing, Learning.learns-none, Learning.learns-then}
use Rattle.wit_encode.proofs.{HeldKeys.same_equiv, HeldKeys.alike, DefinedTypes.HeldKinds, MetKinds.met-kinds, MetKinds.params-same, Opening.permuted-contains}
use Rattle.wit_encode.proofs.Counting.{Began}
use Rattle.wit_model.proofs.Elements.{contains-flat}
use Rattle.base_lemmas.proofs.Bools.{left_of as first_true, right_of as second_true}
use Rattle.base_lemmas.proofs.Elements.{any-at, contains-map, map_from as from-map}
use Rattle.encode_shown.proofs.Used.{contains-flat-from as from-flat}
use Rattle.wit_model.specs.declared.model.«Type».TheVariants as ty

-- ---- what is learnt

pub from-none : (r : Resolve) (own : Option InterfaceId) (ts : List ValueType) (m : TypeEncodingMaps) → LearnsFrom r own ts m m
from-none r own ts m = record { only = learns-nothing _ m; learns = learns-none r own m }

pub from-met : (r : Resolve) (own : Option InterfaceId) (ts : List ValueType) (m m' : TypeEncodingMaps) → LearnsMet r own ts m m' → LearnsFrom r own ts m m'
from-met r own ts m m' l = record { only = record { each = λ n i c. elim (l.only.each n i c) [ inl h ↦ inl h | inr x ↦ inr (x.0, x.1, meets-reaches r own m x.0 n x.2) ] }; learns = l.learns }

pub from-then : {r : Resolve} {own own' : Option InterfaceId} {xs ys : List ValueType} {a b c : TypeEncodingMaps} → own' ≡ own → LearnsFrom r own xs a b → LearnsFrom r own' ys b c
    → LearnsFrom r own (xs ++ ys) a c
from-then {r} {own} {own'} {xs} {ys} {a} {b} {c} e p q = record {
  only = record {
    each = λ n i h. elim (q.only.each n i h) [
      | inl x ↦ elim (p.only.each n i x) [ inl y ↦ inl y | inr y ↦ inr (y.0, Contains-append_left xs ys y.0 y.1, y.2) ]
      | inr y ↦ inr (y.0, Contains-append_right xs ys y.0 y.1, subst (λ (o : Option InterfaceId). Reaches r o y.0 n) e y.2)
    ];
  };
  learns = learns-then e p.learns q.learns;
}

pub on-both : {A E P Q R : Type 0} (x : Result A E) → (P → Q → R) → OnOk x P → OnOk x Q → OnOk x R
on-both x f p q = search std_rules

-- one type more
pub from-type : (r : Resolve) (own own' : Option InterfaceId) (types : List TypeId) (i : ℕ) (t : TypeId) (a b c : TypeEncodingMaps) → i < length types → own' ≡ own
    → LearnsFrom r own (map (λ t. ty.Id t) (take i types)) a b → LearnsMet r own' (ty.Id (get_or types i t) ∷ []) b c → LearnsFrom r own (map (λ t. ty.Id t) (take (i + 1) types)) a c
from-type r own own' types i t a b c l e p q = subst (λ (ts : List ValueType). LearnsFrom r own ts a c)
    (sym (ap (map (λ t. ty.Id t)) (take_more types i t l) ∙ map-append (λ t. ty.Id t) (take i types) (get_or types i t ∷ []))) (from-then e p (from-met r own' (ty.Id (get_or types i t) ∷ []) b c q))

pub from-types : (r : Resolve) (own : Option InterfaceId) (types : List TypeId) (i : ℕ) (a b : TypeEncodingMaps) → length types ≤ i
    → LearnsFrom r own (map (λ t. ty.Id t) (take i types)) a b → LearnsFrom r own (map (λ t. ty.Id t) types) a b
from-types r own types i a b l p = subst (λ (ts : List TypeId). LearnsFrom r own (map (λ t. ty.Id t) ts) a b) (take_all i types l) p

-- one function more
pub from-function : {X : Type 0} (view : X → Function) (r : Resolve) (own own' : Option InterfaceId) (xs : List X) (i : ℕ) (x : X) (a b c : TypeEncodingMaps) → i < length xs → x ≡ get_or xs i x
    → own' ≡ own → LearnsFrom r own (flat_map function_types (map view (take i xs))) a b → LearnsFrom r own' (function_types (view x)) b c
    → LearnsFrom r own (flat_map function_types (map view (take (i + 1) xs))) a c
from-function view r own own' xs i x a b c l is e p q = subst (λ (ts : List ValueType). LearnsFrom r own ts a c) (sym (more ∙ flat_map-append function_types (map view (take i xs)) (view x ∷ [])))
    (subst (λ (ts : List ValueType). LearnsFrom r own (flat_map function_types (map view (take i xs)) ++ ts) a c) one (from-then e p q))
  where
    more : flat_map function_types (map view (take (i + 1) xs)) ≡ flat_map function_types (map view (take i xs) ++ view x ∷ [])
    more = ap (λ ys. flat_map function_types (map view ys)) (take_more xs i x l)
        ∙ (ap (flat_map function_types) (map-append view (take i xs) (get_or xs i x ∷ [])) ∙ ap (λ y. flat_map function_types (map view (take i xs) ++ view y ∷ [])) (sym is))

    one : function_types (view x) ≡ flat_map function_types (view x ∷ [])
    one = sym (append-nil (function_types (view x)))

pub from-functions : {X : Type 0} (view : X → Function) (r : Resolve) (own : Option InterfaceId) (xs : List X) (i : ℕ) (a b : TypeEncodingMaps) → length xs ≤ i
    → LearnsFrom r own (flat_map function_types (map view (take i xs))) a b → LearnsFrom r own (flat_map function_types (map view xs)) a b
from-functions view r own xs i a b l p = subst (λ ys. LearnsFrom r own (flat_map function_types (map view ys)) a b) (take_all i xs l) p

-- ---- functions whose keys are held

same-types : (f : Function) (key : FunctionKey) → are_same (key_of f) (key_view key) ≡ true → function_types f ≡ key_types key
same-types f key e =
    let a = key_of f in
    let b = key_view key in
    let rest = second_true (beq a.is_async b.is_async) (pointwise same_param a.params b.params && option_eq same_type a.result_type b.result_type) e in
    let params = params-same a.params b.params (first_true (pointwise same_param a.params b.params) (option_eq same_type a.result_type b.result_type) rest) in
    let result = optional_same a.result_type b.result_type (second_true (pointwise same_param a.params b.params) (option_eq same_type a.result_type b.result_type) rest) in
    λ i. params i ++ option_to_list (result i)

module _ (r : Resolve) (scope : Scope) (own : Option InterfaceId) (m m' : TypeEncodingMaps) (d d' : Definitions) (types : List TypeId) (fs : List Function) (b : Began m)
    (a : AddsFunctions r scope m m' d d' fs) (l : LearnsFrom r own (referred types fs) m m') (known : AllKnown m' types) (once : IsOnce m') where
  function-ready : (f : Function) → Contains fs f → AllReady m' (function_types f)
  function-ready f c =
      let held = a.learnt (key_of f) (any-at (are_same (key_of f)) (map key_of fs) (key_of f) (contains-map key_of fs f c) (same_equiv.refl (key_of f))) in
      elim (l.learns.keys held.0 held.1 held.3) [
        | inl h ↦ none-in (held.0, held.1) (subst (λ (es : List (ListKey × ℕ)). Contains (map {B = List ℕ × ℕ} (λ e. (e.0.0.items, e.1)) es) (held.0, held.1)) b.keys h)
        | inr h ↦ subst (AllReady m') (sym (same-types f h.key (alike (names_of m'.names) (key_of f) (key_view h.key) held.0 once.names_.table held.2 h.is))) h.ready
      ]

  all-ready : AllReady m' (referred types fs)
  all-ready t c = elim (Contains-append_cases (map (λ t. ty.Id t) types) (flat_map function_types fs) t c) [
    | inl h ↦ type-ready (from-map (λ t. ty.Id t) types t h)
    | inr h ↦ (let x = from-flat function_types fs t h in function-ready x.0 x.1 t x.2)
  ]
    where
      type-ready : (x : TypeId) × Contains types x × (ty.Id x ≡ t) → (id : TypeId) → t ≡ ty.Id id → IsKnown m' id.0
      type-ready (x, h, e) id q = subst (λ (y : TypeId). IsKnown m' y.0) (cc) (known x h)

  -- what the types and functions of an interface meet
  pub interface-kinds : IsValid r → HeldKinds r own (referred types fs) m'
  interface-kinds v = let k = met-kinds r v own (referred types fs) m m' l.learns b.numbers b.kinds all-ready l.only once in record { kinds = k.0; lists = k.1; met = k.2 }

-- ---- functions in another order

module _ (r : Resolve) (own : Option InterfaceId) (types : List TypeId) (fs gs : List Function) (p : IsPermutation fs gs) where
  refers-too : (xs ys : List Function) → ((f : Function) → Contains xs f → Contains ys f) → (t : ValueType) → Contains (referred types xs) t → Contains (referred types ys) t
  refers-too xs ys h t c = elim (Contains-append_cases (map (λ t. ty.Id t) types) (flat_map function_types xs) t c) [
    | inl q ↦ Contains-append_left (map (λ t. ty.Id t) types) (flat_map function_types ys) t q
    | inr q ↦ (let x = from-flat function_types xs t q in Contains-append_right (map (λ t. ty.Id t) types) (flat_map function_types ys) t (contains-flat function_types ys x.0 t (h x.0 x.1) x.2))
  ]

  met-too : (xs ys : List Function) → ((f : Function) → Contains xs f → Contains ys f) → (kind : TypeDefKind) → IsMetKind r own (referred types xs) kind → IsMetKind r own (referred types ys) kind
  met-too xs ys h kind k = record { number = k.number; met = (k.met.0, refers-too xs ys h k.met.0 k.met.1, k.met.2); def = k.def; there = k.there; unnamed = k.unnamed; same = k.same }

  forth : (f : Function) → Contains gs f → Contains fs f
  forth f c = permuted-contains fs gs f p c

  back : (f : Function) → Contains fs f → Contains gs f
  back f c = permuted-contains gs fs f (IsPermutation-sym fs gs p) c

  pub permuted-kinds : (kinds : List TypeDefKind) → AreMetKinds r own (referred types gs) kinds → AreMetKinds r own (referred types fs) kinds
  permuted-kinds kinds a = record { different = a.different; met = λ k c. met-too gs fs forth k (a.met k c); all = λ k x. a.all k (met-too fs gs back k x) }

pub permuted-aliases : (r : Resolve) (own : Option InterfaceId) (types : List TypeId) (fs gs : List Function) → IsPermutation fs gs → {a a' : Around} → AliasesMet r own (referred types gs) a a'
    → AliasesMet r own (referred types fs) a a'
permuted-aliases r own types fs gs p m = met-more (λ n x. (x.0, refers-too r own types fs gs p gs fs (forth r own types fs gs p) x.0 x.1, x.2)) m

pub permuted-few : (r : Resolve) (own : Option InterfaceId) (types : List TypeId) (fs gs : List Function) (ds : List Declaration) → IsPermutation fs gs → DeclaresFew r own types gs ds
    → DeclaresFew r own types fs ds
permuted-few r own types fs gs ds p d = record {
  numbers = d.numbers;
  apart = d.apart;
  met = λ n c. let x = d.met n c in (x.0, refers-too r own types fs gs p gs fs (forth r own types fs gs p) x.0 x.1, x.2);
  few = omega (arith, d.few, length_permutation fs gs p);
}

pub permuted-types : (r : Resolve) (own : Option InterfaceId) (S : Pairs) (types : List TypeId) (fs gs : List Function) (ds : Declarations) → IsPermutation fs gs → DefinesTypes r own S types gs ds
    → DefinesTypes r own S types fs ds
permuted-types r own S types fs gs ds p t = record {
  kinds = t.kinds;
  met = permuted-kinds r own types fs gs p t.kinds t.met;
  kind_slots = t.kind_slots;
  stand = t.stand;
  name_slots = t.name_slots;
  named = t.named;
  count = t.count;
  all = t.all;
}
