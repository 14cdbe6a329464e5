-- What maps learn, call by call.
use Rattle.std.proofs.Common.{rules as std_rules, ◌≡◌, refl, sym, subst, ap, ◌∙◌, ℕ, ◌⊎◌, false, inl, inr, List, [], ◌∷◌, ◌++◌, map, Option, Some, None, option_to_list, Result, OnOk, String}
use Rattle.std.proofs.lemmas.{List.Elements.Contains-append_cases, Option.same_Some as some-same}
use Rattle.std.specs.declared.alloc.Global.{Global}
use Rattle.std.specs.{List.Contains, Borrow.Bor}
use Rattle.wit_model.specs.{Lookup.type_at, Parts.function_types, Rules.is_named_kind, Text.Text}
use Rattle.wit_model.specs.declared.model.{Resolve.Resolve, Function.Function, TypeDefKind.TypeDefKind, InterfaceId.InterfaceId, «Type».«Type» as ValueType}
use Rattle.wit_model.specs.declared.model.TypeDef.{TypeDef}
use Rattle.encode_types.specs.declared.{key.FunctionKey.FunctionKey, maps.TypeEncodingMaps.TypeEncodingMaps}
use Rattle.encode_types.specs.{Key.IsKeyOf, Kinds.parts_of, Codes.kind_code, Codes.names_of, Codes.lists_of, Codes.IsKeyList, Codes.ListKey, Plan.foreign_owner, Scope.Scope, Counts.Definitions, Counts.SameKeys, Counts.AddsTypes}
use Rattle.encode_types.specs.Maps.{IsKnown, IsReady, AllReady, HasKind, MapsGrow, AddsNames, LearnsOne, LearnsList, LearnsKeyList, by_kind}
use Rattle.encode_types.specs.MetKinds.{IsKnownKind, IsKnownList, IsReadyKey, KeepsNames, IsHeld, key_types, Learns, LearnsMet, LearnsKindOf}
use Rattle.encode_types.proofs.{Tables.new-in, Tables.entry-more, Tables.key-grow, Encoding.learns-nothing, Encoding.learns-both, Encoding.learns-same, Agree.known-grow, Agree.adds-holds, Lists.none-in, Writing.on-three}
use Rattle.base_lemmas.proofs.Elements.{last_of as one-contained}

pub ready-grow : (m m' : TypeEncodingMaps) (ts : List ValueType) → MapsGrow m m' → AllReady m ts → AllReady m' ts
ready-grow m m' ts g a t c id e = known-grow m m' id.0 g (a t c id e)

has-grow : (m m' : TypeEncodingMaps) (k : TypeDefKind) → MapsGrow m m' → (i : ℕ) × HasKind m k i → (i : ℕ) × HasKind m' k i
has-grow m m' k g x = (x.0, g.keeps (by_kind k) x.0 x.1)

held-grow : (m m' : TypeEncodingMaps) (def : TypeDef) → MapsGrow m m' → IsHeld m def → IsHeld m' def
held-grow m m' def g h = record { parts = ready-grow m m' (parts_of def.kind) g h.parts; kind = λ e. has-grow m m' def.kind g (h.kind e) }

kind-grow : (r : Resolve) (m m' : TypeEncodingMaps) (k : TypeDefKind) → MapsGrow m m' → IsKnownKind r m k → IsKnownKind r m' k
kind-grow r m m' k g h = record { number = h.number; known = known-grow m m' h.number g h.known; def = h.def; there = h.there; unnamed = h.unnamed; same = h.same }

known-list-grow : (r : Resolve) (m m' : TypeEncodingMaps) (xs : List ℕ) → MapsGrow m m' → IsKnownList r m xs → IsKnownList r m' xs
known-list-grow r m m' xs g h = record { kind = h.kind; is = h.is; known = kind-grow r m m' h.kind g h.known }

-- ---- one after the other

-- nothing has been learnt
pub learns-none : (r : Resolve) (own : Option InterfaceId) (m : TypeEncodingMaps) → Learns r own m m
learns-none r own m = record { grow = record { keeps = λ k i h. h }; names_ = record { kept_list = λ k ys h. h }; numbers = λ n def k at f. inl k; kinds = λ k i c. inl c; keys = λ k i c. inl c }

pub learns-then : {r : Resolve} {own own' : Option InterfaceId} {a b c : TypeEncodingMaps} → own' ≡ own → Learns r own a b → Learns r own' b c → Learns r own a c
learns-then {r} {own} {own'} {a} {b} {c} e p q' =
    let q : Learns r own b c = subst (λ (o : Option InterfaceId). Learns r o b c) e q' in
    record {
      grow = record { keeps = λ k i h. q.grow.keeps k i (p.grow.keeps k i h) };
      names_ = record { kept_list = λ k ys h. q.names_.kept_list k ys (p.names_.kept_list k ys h) };
      numbers = λ n def k at f. elim (q.numbers n def k at f) [ inl x ↦ elim (p.numbers n def x at f) [ inl y ↦ inl y | inr h ↦ inr (held-grow b c def q.grow h) ] | inr h ↦ inr h ];
      kinds = λ k i h. elim (q.kinds k i h) [ inl x ↦ elim (p.kinds k i x) [ inl y ↦ inl y | inr z ↦ inr (known-list-grow r b c k q.grow z) ] | inr z ↦ inr z ];
      keys = λ k i h. elim (q.keys k i h) [
        | inl x ↦ elim (p.keys k i x) [ inl y ↦ inl y | inr z ↦ inr (record { key = z.key; is = q.names_.kept_list z.key k z.is; ready = ready-grow b c (key_types z.key) q.grow z.ready }) ]
        | inr z ↦ inr z
      ];
    }

-- ---- one number

module _ (r : Resolve) (own : Option InterfaceId) (m m' : TypeEncodingMaps) (n : ℕ) (def : TypeDef) (at : type_at r n ≡ Some def) (one : LearnsOne m m' n) (grow : MapsGrow m m') (keys : SameKeys m m') where
  old-keys : (ys : List ℕ) (i : ℕ) → Contains (lists_of m'.func_type_map) (ys, i) → Contains (lists_of m.func_type_map) (ys, i) ⊎ IsReadyKey m' ys
  old-keys ys i c = inl (subst (λ (es : List (ListKey × ℕ)). Contains (map {B = List ℕ × ℕ} (λ e. (e.0.0.items, e.1)) es) (ys, i)) keys.lists c)

  old-names : KeepsNames m m'
  old-names = record { kept_list = λ k ys h. subst (λ (ns : List (Bor Text × ℕ)). IsKeyList (map {B = Text × ℕ} (λ e. (e.0.now, e.1)) ns) k ys) (sym keys.names_) h }

  only-here : IsHeld m' def ⊎ (foreign_owner own def.owner ≡ None → ⊥) → (k : ℕ) (d : TypeDef) → IsKnown m' k → type_at r k ≡ Some d → foreign_owner own d.owner ≡ None → IsKnown m k ⊎ IsHeld m' d
  only-here held k d known at' f = elim (one.only.each k known.0 known.1) [
    | inl c ↦ inl (known.0, c)
    | inr e ↦ (let same : def ≡ d = some-same def d (sym at ∙ ap (type_at r) (sym e) ∙ at') in
        inr (elim held [ inl h ↦ subst (IsHeld m') same h | inr no_home ↦ absurd (no_home (ap (λ (x : TypeDef). foreign_owner own x.owner) same ∙ f)) ]))
  ]

  -- an unnamed type, whose parts are known
  pub learns-unnamed : AllReady m (parts_of def.kind) → def.name ≡ None → LearnsKindOf m m' def.kind → Learns r own m m'
  learns-unnamed ready none l = record {
    grow = grow;
    names_ = old-names;
    numbers = only-here (inl (record { parts = ready-grow m m' (parts_of def.kind) grow ready; kind = λ e. l.known }));
    kinds = λ k i c. elim (l.only k i c) [
      | inl h ↦ inl h
      | inr e ↦ inr (record { kind = def.kind; is = e; known = record { number = n; known = one.known; def = def; there = at; unnamed = none; same = refl } })
    ];
    keys = old-keys;
  }

  module _ (kinds : m'.def_to_index.entries ≡ m.def_to_index.entries) where
    learns-kept : IsHeld m' def ⊎ (foreign_owner own def.owner ≡ None → ⊥) → Learns r own m m'
    learns-kept held = record {
      grow = grow;
      names_ = old-names;
      numbers = only-here held;
      kinds = λ ys i c. inl (subst (λ (es : List (ListKey × ℕ)). Contains (map {B = List ℕ × ℕ} (λ e. (e.0.0.items, e.1)) es) (ys, i)) kinds c);
      keys = old-keys;
    }

    -- a named one
    pub learns-named : AllReady m (parts_of def.kind) → (def.name ≡ None → ⊥) → Learns r own m m'
    learns-named ready named = learns-kept (inl (record { parts = ready-grow m m' (parts_of def.kind) grow ready; kind = λ e. absurd (named e) }))

    -- one of another interface
    pub learns-foreign : (foreign_owner own def.owner ≡ None → ⊥) → Learns r own m m'
    learns-foreign no_home = learns-kept (inr no_home)

-- ---- one kind

pub kind-learnt : (m m₁ m' : TypeEncodingMaps) (kind : TypeDefKind) (xs : List ℕ) (i : ℕ) → m₁ ≡ m → is_named_kind kind ≡ false → xs ≡ kind_code kind → LearnsList m₁ m' xs i → LearnsKindOf m m' kind
kind-learnt m m₁ m' kind xs i e unnamed is l' =
    let l : LearnsList m m' xs i = subst (λ (z : TypeEncodingMaps). LearnsList z m' xs i) e l' in
    record {
      known = (i, (unnamed, subst (λ (ys : List ℕ). Contains (lists_of m'.def_to_index) (ys, i)) is (new-in (lists_of m.def_to_index) (lists_of m'.def_to_index) (xs, i) l.more)));
      only = λ ys j c. elim (entry-more (lists_of m.def_to_index) (lists_of m'.def_to_index) xs i l.more ys j c) [ inl h ↦ inl h | inr h ↦ inr (h.0 ∙ is) ];
    }

pub kind-had : (m : TypeEncodingMaps) (kind : TypeDefKind) (i : ℕ) → HasKind m kind i → LearnsKindOf m m kind
kind-had m kind i h = record { known = (i, h); only = λ ys j c. inl c }

pub kind-same : (m m₁ m' : TypeEncodingMaps) (kind : TypeDefKind) → m'.def_to_index.entries ≡ m₁.def_to_index.entries → LearnsKindOf m m₁ kind → LearnsKindOf m m' kind
kind-same m m₁ m' kind e l = record {
  known = (l.known.0, (l.known.1.0, subst (λ (es : List (ListKey × ℕ)). Contains (map {B = List ℕ × ℕ} (λ e. (e.0.0.items, e.1)) es) (kind_code kind, l.known.0)) (sym e) l.known.1.1));
  only = λ ys j c. l.only ys j (subst (λ (es : List (ListKey × ℕ)). Contains (map {B = List ℕ × ℕ} (λ e. (e.0.0.items, e.1)) es) (ys, j)) e c);
}

-- ---- a call

module _ {A E : Type 0} (x : Result A E) (r : Resolve) (scope : Scope) (m m' : TypeEncodingMaps) (d d' : Definitions) (n : ℕ) (def : TypeDef) (at : type_at r n ≡ Some def) where
  pub learns-call-unnamed : OnOk x (LearnsOne m m' n) → MapsGrow m m' → OnOk x (AddsTypes r scope m m' d d') → OnOk x (LearnsKindOf m m' def.kind) → AllReady m (parts_of def.kind) → def.name ≡ None
      → OnOk x (Learns r scope.own_interface m m')
  learns-call-unnamed one grow counts kinds ready none = search (std_rules, learns-unnamed r scope.own_interface m m' n def)

  pub learns-call-named : OnOk x (LearnsOne m m' n) → MapsGrow m m' → OnOk x (AddsTypes r scope m m' d d') → OnOk x (m'.def_to_index.entries ≡ m.def_to_index.entries) → AllReady m (parts_of def.kind)
      → (name : String Global) → def.name ≡ Some name → OnOk x (Learns r scope.own_interface m m')
  learns-call-named one grow counts kinds ready name named = on-three x _ _ _ _
      (λ one counts kinds. learns-named r scope.own_interface m m' n def at one grow counts.keys kinds ready (λ none. let e : None ≡ Some name = sym none ∙ named in let z : ⊥ = cc in z))
      one counts kinds

  pub learns-call-foreign : OnOk x (LearnsOne m m' n) → MapsGrow m m' → OnOk x (AddsTypes r scope m m' d d') → OnOk x (m'.def_to_index.entries ≡ m.def_to_index.entries)
      → (i : InterfaceId) → foreign_owner scope.own_interface def.owner ≡ Some i → OnOk x (Learns r scope.own_interface m m')
  learns-call-foreign one grow counts kinds i f = on-three x _ _ _ _ (λ one counts kinds. learns-foreign r scope.own_interface m m' n def at one grow counts.keys kinds
      (λ none. let e : None ≡ Some i = sym none ∙ f in let z : ⊥ = cc in z)) one counts kinds

-- ---- types

pub met-nothing : (r : Resolve) (own : Option InterfaceId) (ts : List ValueType) (m : TypeEncodingMaps) → LearnsMet r own ts m m
met-nothing r own ts m = record { only = learns-nothing _ m; learns = learns-none r own m }

-- two lists of types, one after the other
pub met-both : (r : Resolve) (own own' : Option InterfaceId) (a b c : TypeEncodingMaps) (xs ys : List ValueType) → own' ≡ own → LearnsMet r own xs a b → LearnsMet r own' ys b c
    → LearnsMet r own (xs ++ ys) a c
met-both r own own' a b c xs ys e p q = record { only = learns-both r own own' a b c xs ys e p.learns.grow p.only q.only; learns = learns-then e p.learns q.learns }

pub ready-both : (m m' : TypeEncodingMaps) (xs ys : List ValueType) → MapsGrow m m' → AllReady m xs → AllReady m' ys → AllReady m' (xs ++ ys)
ready-both m m' xs ys g p q t c = elim (Contains-append_cases xs ys t c) [ inl h ↦ ready-grow m m' xs g p t h | inr h ↦ q t h ]

pub ready-none : (m : TypeEncodingMaps) → AllReady m []
ready-none m t c = none-in t c

pub ready-single : (m : TypeEncodingMaps) (t : ValueType) → IsReady m t → AllReady m (t ∷ [])
ready-single m t h u c = subst (IsReady m) (one-contained t u c) h

-- ---- the key of a function

key-types : (key : FunctionKey) (f : Function) → IsKeyOf key f → key_types key ≡ function_types f
key-types key f k = λ i. map (λ p. p.ty) (k.params i) ++ option_to_list (k.result_ i)

pub met-key : (r : Resolve) (own : Option InterfaceId) (m m₁ m₂ m' : TypeEncodingMaps) (key : FunctionKey) (xs : List ℕ) (i : ℕ) (f : Function) → IsKeyOf key f
    → LearnsMet r own (function_types f) m m₁ → AllReady m₁ (function_types f)
    → m₂ ≡ m₁ → IsKeyList (names_of m₁.names) key xs → LearnsKeyList m₂ m' xs i → MapsGrow m₂ m' → LearnsMet r own (function_types f) m m'
met-key r own m m₁ m₂ m' key xs i f is met ready e listed l' grow = record {
  only = learns-same m m₁ m' met.only l.rest.numbers;
  learns = learns-then refl met.learns (record {
    grow = more;
    names_ = record { kept_list = same-names };
    numbers = λ n def k at f. inl (k.0, subst (λ (xs : List (ℕ × ℕ)). Contains xs (n, k.0)) l.rest.numbers k.1);
    kinds = λ ys j c. inl (subst (λ (es : List (ListKey × ℕ)). Contains (map {B = List ℕ × ℕ} (λ e. (e.0.0.items, e.1)) es) (ys, j)) l.rest.kinds c);
    keys = λ ys j c. elim (entry-more (lists_of m₁.func_type_map) (lists_of m'.func_type_map) xs i l.more ys j c) [
      | inl h ↦ inl h
      | inr h ↦ inr (record { key = key; is = rw h.0 (same-names key xs listed); ready = subst (AllReady m') (sym (key-types key f is)) (ready-grow m₁ m' (function_types f) more ready) })
    ];
  });
}
  where
    l : LearnsKeyList m₁ m' xs i
    l = subst (λ (z : TypeEncodingMaps). LearnsKeyList z m' xs i) e l'

    more : MapsGrow m₁ m'
    more = subst (λ (z : TypeEncodingMaps). MapsGrow z m') e grow

    same-names : (k : FunctionKey) (ys : List ℕ) → IsKeyList (names_of m₁.names) k ys → IsKeyList (names_of m'.names) k ys
    same-names k ys h = subst (λ (ns : List (Bor Text × ℕ)). IsKeyList (map {B = Text × ℕ} (λ e. (e.0.now, e.1)) ns) k ys) (sym l.rest.names_) h

-- names that may have been added, and nothing else
pub met-names : (r : Resolve) (own : Option InterfaceId) (ts : List ValueType) (m m' : TypeEncodingMaps) → AddsNames m m' → LearnsMet r own ts m m'
met-names r own ts m m' s = search (std_rules, learns-same, learns-nothing, adds-holds, key-grow)
