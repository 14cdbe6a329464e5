-- Types of functions by their keys.
use Rattle.std.proofs.Common.{rules as std_rules, ◌≡◌, sym, subst, ap, ◌∙◌, ℕ, List, [], ◌∷◌, ◌++◌, inl, inr, map, Bool, Option}
use Rattle.std.proofs.lemmas.List.Elements.{Contains-append_left, Contains-append_right}
use Rattle.std.specs.{Prelude.IsPermutation, Borrow.Bor, List.Contains}
use Rattle.wit_model.specs.{Text.Text, Meant.signature_of, Meaning.Signature, Lookup.is_async}
use Rattle.wit_model.specs.declared.model.{Resolve.Resolve, Function.Function, «Type».«Type» as ValueType, Param.Param}
use Rattle.encode_types.specs.declared.{key.FunctionKey.FunctionKey, maps.TypeEncodingMaps.TypeEncodingMaps}
use Rattle.encode_types.specs.{Key.IsKeyOf, Key.key_signature, Slots.Pairs, Slots.function, Scope.Scope, Codes.names_of, Codes.lists_of, Codes.ListKey, Codes.IsListed, Codes.IsKeyList, Distinct.KnowsKey, Distinct.key_of, Fits.CanEncode, Counts.SameKeys, Counts.Definitions, Counts.one_function_more, Counts.AddsTypes, Counts.AddsFunction}
use Rattle.encode_types.specs.Maps.{MapsAgree, IsOnce, AddsNames, KeepsKnownNames, HasKey, LacksKey, LearnsKeyList, by_key}
use Rattle.encode_types.proofs.{Agree.adds-holds, Agree.adds-back, Marking.slots-none, Marking.slots-then, Tables.listed-names, Tables.listed-grow, Tables.names-same, Tables.names-then, Defining.shows-none, Defining.shows-trans}

pub key-signature : (r : Resolve) (key : FunctionKey) (f : Function) → IsKeyOf key f → key_signature r key ≡ signature_of r f
key-signature r key f k = search std_rules

-- what a key that is known has as its slot
pub key-stands : (r : Resolve) (m : TypeEncodingMaps) (S : Pairs) (key : FunctionKey) (f : Function) (i : ℕ) → MapsAgree r m S → IsKeyOf key f → HasKey m key i → S i (function (signature_of r f))
key-stands r m S key f i a k h = subst (λ (z : Signature). S i (function z)) (key-signature r key f k) (a.says (by_key key) i h)

-- maps that lack a key of a function don't know the function's
pub key-new : (m : TypeEncodingMaps) (key : FunctionKey) (f : Function) → IsKeyOf key f → LacksKey m key → KnowsKey m (key_of f) → ⊥
key-new m key f is lacks (xs, i, l, c) = lacks i (
  xs,
  subst (λ (b : Bool). IsListed (names_of m.names) b key.params.0.now key.result.now xs) (sym is.async)
      (subst (λ (ps : List Param). IsListed (names_of m.names) (is_async f.kind) ps key.result.now xs) (sym is.params)
      (subst (λ (t : Option ValueType). IsListed (names_of m.names) (is_async f.kind) f.params.items t xs) (sym is.result_) l)),
  c,
)

-- ---- what is asked of parameters and results

-- of some of the types
encode-some : (r : Resolve) (scope : Scope) (xs ys : List ValueType) → ((t : ValueType) → Contains ys t → Contains xs t) → CanEncode r scope xs → CanEncode r scope ys
encode-some r scope xs ys f c = record { packages_ = c.packages_; layered = c.layered; in_range = λ t h. c.in_range t (f t h); fits = λ t h. c.fits t (f t h) }

pub encode-left : (r : Resolve) (scope : Scope) (xs ys : List ValueType) → CanEncode r scope (xs ++ ys) → CanEncode r scope xs
encode-left r scope xs ys c = encode-some r scope (xs ++ ys) xs (Contains-append_left xs ys) c

pub encode-right : (r : Resolve) (scope scope' : Scope) (xs ys : List ValueType) → scope' ≡ scope → CanEncode r scope (xs ++ ys) → CanEncode r scope' ys
encode-right r scope scope' xs ys e c = encode-some r scope' (xs ++ ys) ys (Contains-append_right xs ys) (subst (λ (z : Scope). CanEncode r z (xs ++ ys)) (sym e) c)

-- ---- counts

pub counts-key : (r : Resolve) (scope : Scope) (m m₁ m' : TypeEncodingMaps) (d d₁ d' : Definitions) (key : FunctionKey) (xs : List ℕ) (i : ℕ) → LacksKey m key → AddsTypes r scope m m₁ d d₁
    → IsKeyList (names_of m₁.names) key xs → LearnsKeyList m₁ m' xs i → d' ≡ one_function_more i d₁ → AddsFunction r scope m m' d d' key i
counts-key r scope m m₁ m' d d₁ d' key xs i lacks a is l e = search (std_rules, slots-none, names-same, slots-then, shows-trans, shows-none)

-- a key whose list is there: its names had numbers, so none was added
pub counts-found : (r : Resolve) (scope : Scope) (m m' : TypeEncodingMaps) (d d' : Definitions) (key : FunctionKey) (xs : List ℕ) (i : ℕ) → IsOnce m → AddsNames m m' → KeepsKnownNames key m m'
    → IsKeyList (names_of m'.names) key xs → Contains (lists_of m'.func_type_map) (xs, i) → d' ≡ d → AddsFunction r scope m m' d d' key i
counts-found r scope m m' d d' key xs i once s keep is c e =
    let has : HasKey m key i = adds-back m m' once s (by_key key) i (xs, is, c) in
    let names : m'.names.entries ≡ m.names.entries = keep (λ p h. listed-names (names_of m.names) key.params.0.now has.1.middle p has.1.listed h) in
    record {
      slots = slots-none r scope m m' d d' s.rest.numbers s.rest.kinds (ap (λ (z : Definitions). z.types) e) (ap (λ (z : Definitions). z.exported) e);
      keys = inl (has, record { lists = s.rest.keys; names_ = names; units = record { future_ = s.rest.unit_future_; stream_ = s.rest.unit_stream_ } }, ap (λ (z : Definitions). z.functions) e);
      shows = shows-none r scope m m' d d' s.rest.numbers (ap (λ (z : Definitions). z.exports) e);
    }

-- names have been added before
pub counts-behind : (r : Resolve) (scope scope' : Scope) (m m₁ m' : TypeEncodingMaps) (d d₁ d' : Definitions) (key : FunctionKey) (i : ℕ) → scope' ≡ scope → AddsNames m m₁ → d₁ ≡ d → LacksKey m₁ key
    → AddsFunction r scope' m₁ m' d₁ d' key i → AddsFunction r scope m m' d d' key i
counts-behind r scope scope' m m₁ m' d d₁ d' key i q s e lacks a' =
    let a : AddsFunction r scope m₁ m' d₁ d' key i = subst (λ (z : Scope). AddsFunction r z m₁ m' d₁ d' key i) q a' in
    record {
      slots = slots-then (slots-none r scope m m₁ d d₁ s.rest.numbers s.rest.kinds (ap (λ (z : Definitions). z.types) e) (ap (λ (z : Definitions). z.exported) e)) a.slots;
      keys = elim a.keys [
        | inl h ↦ absurd (lacks i h.0)
        | inr h ↦ inr (
          λ j k. lacks j (adds-holds m m₁ s (by_key key) j k),
          record {
            units = record { future_ = h.1.units.future_ ∙ s.rest.unit_future_; stream_ = h.1.units.stream_ ∙ s.rest.unit_stream_ };
            grow = names-then s.grow h.1.grow;
            list = h.1.list;
            is = h.1.is;
            more = subst (λ (es : List (ListKey × ℕ)). IsPermutation (map {B = List ℕ × ℕ} (λ e. (e.0.0.items, e.1)) es ++ (h.1.list, i) ∷ []) (lists_of m'.func_type_map)) s.rest.keys h.1.more;
          },
          h.2 ∙ ap (λ (z : Definitions). z.functions ++ i ∷ []) e,
        )
      ];
      shows = shows-trans (shows-none r scope m m₁ d d₁ s.rest.numbers (ap (λ (z : Definitions). z.exports) e)) a.shows;
    }

-- a key that is known is known under more names
pub knows-more : (m m' : TypeEncodingMaps) (f : Function) → AddsNames m m' → KnowsKey m (key_of f) → KnowsKey m' (key_of f)
knows-more m m' f s (xs, i, l, c) = search (std_rules, listed-grow)

pub lacks-same : (m m' : TypeEncodingMaps) (key : FunctionKey) → SameKeys m m' → LacksKey m key → LacksKey m' key
lacks-same m m' key e l i h = l i (
  h.0,
  subst (λ (ns : List (Bor Text × ℕ)). IsKeyList (map {B = Text × ℕ} (λ e. (e.0.now, e.1)) ns) key h.0) e.names_ h.1,
  subst (λ (es : List (ListKey × ℕ)). Contains (map {B = List ℕ × ℕ} (λ e. (e.0.0.items, e.1)) es) (h.0, i)) e.lists h.2,
)

pub list-same : (m m' : TypeEncodingMaps) (key : FunctionKey) (xs : List ℕ) → SameKeys m m' → IsKeyList (names_of m.names) key xs → IsKeyList (names_of m'.names) key xs
list-same m m' key xs e l = subst (λ (ns : List (Bor Text × ℕ)). IsKeyList (map {B = Text × ℕ} (λ e. (e.0.now, e.1)) ns) key xs) (sym e.names_) l
