-- What is left where a call is refused.
use Rattle.std.proofs.Common.{◌≡◌, refl, subst, ap, ◌∙◌, ℕ, List, Bool, true, false, Result, Ok, Err, IsOk, OnErr, inl, inr, arith}
use Rattle.std.specs.List.{Contains}
use Rattle.comp_bytes.specs.Raw.{ExternName}
use Rattle.wit_model.specs.declared.model.{Resolve.Resolve, TypeDef.TypeDef}
use Rattle.encode_types.specs.declared.maps.TypeEncodingMaps.{TypeEncodingMaps}
use Rattle.encode_types.specs.{Scope.Scope, Maps.SameMaps, Maps.AddsNames, Maps.IsKnown, Maps.LearnsOne, View.View, View.Writes, View.Refuses, Room.Request, Numbers.NamedLacksRoom}
use Rattle.encode_types.specs.Counts.{Definitions, type_more_if, AddsTypes, AddsInPart, OneMoreAtMost, no_more, a_type}
use Rattle.encode_types.proofs.{Marking.slots-none, Marking.slots-then, Defining.shows-none, Defining.shows-trans}

-- a call that isn't refused
pub never-err : {A E : Type 0} (x : Result A E) (P : Type 0) → IsOk x → OnErr x P
never-err (Ok v) P ok = tt
never-err (Err e) P ok = absurd (let z : ⊥ = cc in z)

-- ---- maps with the same entries

pub same-when : {m m' : TypeEncodingMaps} → m' ≡ m → SameMaps m m'
same-when e = record {
  numbers = ap (λ (z : TypeEncodingMaps). z.id_to_index.entries) e;
  kinds = ap (λ (z : TypeEncodingMaps). z.def_to_index.entries) e;
  keys = ap (λ (z : TypeEncodingMaps). z.func_type_map.entries) e;
  names_ = ap (λ (z : TypeEncodingMaps). z.names.entries) e;
  unit_future_ = ap (λ (z : TypeEncodingMaps). z.unit_future) e;
  unit_stream_ = ap (λ (z : TypeEncodingMaps). z.unit_stream) e;
}

pub unknown-same : {m m' : TypeEncodingMaps} {n : ℕ} → SameMaps m m' → (IsKnown m n → ⊥) → IsKnown m' n → ⊥
unknown-same {n = n} s none k = none (k.0, subst (λ (es : List (ℕ × ℕ)). Contains es (n, k.0)) s.numbers k.1)

pub learnt-behind : {m m₁ m' : TypeEncodingMaps} {n : ℕ} → SameMaps m m₁ → LearnsOne m₁ m' n → LearnsOne m m' n
learnt-behind s l = record {
  known = l.known;
  only = record { each = λ k i c. elim (l.only.each k i c) [ inl q ↦ inl (subst (λ (es : List (ℕ × ℕ)). Contains es (k, i)) s.numbers q) | inr q ↦ inr q ] };
}

pub counts-same : (r : Resolve) (scope : Scope) (m m' : TypeEncodingMaps) (d d' : Definitions) → SameMaps m m' → d' ≡ d → AddsTypes r scope m m' d d'
counts-same r scope m m' d d' s e = record {
  slots = slots-none r scope m m' d d' s.numbers s.kinds (ap (λ (z : Definitions). z.types) e) (ap (λ (z : Definitions). z.exported) e);
  functions = ap (λ (z : Definitions). z.functions) e;
  keys = record { lists = s.keys; names_ = s.names_; units = record { future_ = s.unit_future_; stream_ = s.unit_stream_ } };
  shows = shows-none r scope m m' d d' s.numbers (ap (λ (z : Definitions). z.exports) e);
}

-- ---- a call behind one that leaves what is held and written

pub written-behind : {n : ℕ} {u v w : View} → v.extent ≡ u.extent → Writes n v w → Writes n u w
written-behind e p = record { extent = (let x = p.extent in omega (arith, e, x)) }

pub refuses-behind : {u v w : View} {q : Request} → v.held ≡ u.held → Refuses v w q → Refuses u w q
refuses-behind e p = record { lacks = p.lacks; held = (let x = p.held in omega (arith, e, x)) }

pub named-behind : (r : Resolve) (def : TypeDef) (name : ExternName) (u v w : View) → v.held ≡ u.held → NamedLacksRoom r def name v w → NamedLacksRoom r def name u w
named-behind r def name u v w e n = elim n [
  | inl d ↦ inl (refuses-behind e d)
  | inr x ↦ inr (record { lacks = x.lacks; held = (let le = x.held in omega (arith, e, le)) })
]

-- ---- what has been defined

-- one value type more, or none
pub one-or-none : (b : Bool) (i : ℕ) (d d' : Definitions) → d' ≡ type_more_if b i d → OneMoreAtMost d d'
one-or-none true i d d' e = a_type i e
one-or-none false i d d' e = no_more e

-- behind what has been learnt
pub part-known : {r : Resolve} {scope : Scope} {m m' : TypeEncodingMaps} {d e d' : Definitions} → AddsTypes r scope m m' d e → OneMoreAtMost e d' → AddsInPart r scope m m' d d'
part-known {r} {scope} {m} {m'} {d} {e} {d'} a more = record { known = e; slots = a.slots; functions = a.functions; lists = a.keys.lists; shows = a.shows; more = more }

-- nothing more
pub part-whole : {r : Resolve} {scope : Scope} {m m' : TypeEncodingMaps} {d d' : Definitions} → AddsTypes r scope m m' d d' → AddsInPart r scope m m' d d'
part-whole a = part-known a (no_more refl)

-- maps that have learnt nothing
pub part-beside : (r : Resolve) (scope : Scope) (m m' : TypeEncodingMaps) (d d' : Definitions) → SameMaps m m' → OneMoreAtMost d d' → AddsInPart r scope m m' d d'
part-beside r scope m m' d d' s more = record {
  known = d;
  slots = slots-none r scope m m' d d s.numbers s.kinds refl refl;
  functions = refl;
  lists = s.keys;
  shows = shows-none r scope m m' d d s.numbers refl;
  more = more;
}

pub part-same : (r : Resolve) (scope : Scope) (m m' : TypeEncodingMaps) (d d' : Definitions) → SameMaps m m' → d' ≡ d → AddsInPart r scope m m' d d'
part-same r scope m m' d d' s e = part-beside r scope m m' d d' s (no_more e)

-- one after the other
pub part-then : {r : Resolve} {scope scope' : Scope} {a b c : TypeEncodingMaps} {d e f : Definitions} → scope' ≡ scope → AddsTypes r scope a b d e → AddsInPart r scope' b c e f
    → AddsInPart r scope a c d f
part-then {r} {scope} {scope'} {a} {b} {c} {d} {e} {f} s p q' =
    let q : AddsInPart r scope b c e f = subst (λ (z : Scope). AddsInPart r z b c e f) s q' in
    record {
      known = q.known;
      slots = slots-then p.slots q.slots;
      functions = q.functions ∙ p.functions;
      lists = q.lists ∙ p.keys.lists;
      shows = shows-trans p.shows q.shows;
      more = q.more;
    }

-- names have been added before
pub part-behind : (r : Resolve) (scope scope' : Scope) (m m₁ m' : TypeEncodingMaps) (d d₁ d' : Definitions) → scope' ≡ scope → AddsNames m m₁ → d₁ ≡ d → AddsInPart r scope' m₁ m' d₁ d'
    → AddsInPart r scope m m' d d'
part-behind r scope scope' m m₁ m' d d₁ d' q s e a' =
    let a : AddsInPart r scope m₁ m' d₁ d' = subst (λ (z : Scope). AddsInPart r z m₁ m' d₁ d') q a' in
    record {
      known = a.known;
      slots = slots-then (slots-none r scope m m₁ d d₁ s.rest.numbers s.rest.kinds (ap (λ (z : Definitions). z.types) e) (ap (λ (z : Definitions). z.exported) e)) a.slots;
      functions = a.functions ∙ ap (λ (z : Definitions). z.functions) e;
      lists = a.lists ∙ s.rest.keys;
      shows = shows-trans (shows-none r scope m m₁ d d₁ s.rest.numbers (ap (λ (z : Definitions). z.exports) e)) a.shows;
      more = a.more;
    }

-- names alone have been added
pub part-names : (r : Resolve) (scope : Scope) (m m' : TypeEncodingMaps) (d d' : Definitions) → AddsNames m m' → d' ≡ d → AddsInPart r scope m m' d d'
part-names r scope m m' d d' s e = record {
  known = d;
  slots = slots-none r scope m m' d d s.rest.numbers s.rest.kinds refl refl;
  functions = refl;
  lists = s.rest.keys;
  shows = shows-none r scope m m' d d s.rest.numbers refl;
  more = no_more e;
}
