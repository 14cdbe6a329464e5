-- Aliases of what is met.
use Rattle.std.proofs.Common.{rules as std_rules, ◌≡◌, refl, sym, subst, ap, ◌∙◌, ℕ, Bool, true, List, [], ◌∷◌, ◌++◌, Option, Some, inl, inr, ◌<◌, length, get_or}
use Rattle.std.proofs.lemmas.List.Elements.{Contains-append_cases, Contains-get_or}
use Rattle.wit_model.specs.Lookup.{type_at}
use Rattle.wit_model.specs.declared.model.{Resolve.Resolve, TypeId.TypeId, TypeDef.TypeDef, InterfaceId.InterfaceId, «Type».«Type» as ValueType}
use Rattle.encode_types.specs.declared.maps.TypeEncodingMaps.{TypeEncodingMaps}
use Rattle.encode_types.specs.{Aliases.IsMetElsewhere, Aliases.AliasesMet, Aliases.NumbersMet, Plan.foreign_owner, Plan.itself, Plan.Reaches, Plan.IsOrderOf, MetKinds.ReachedFrom, View.ImportsOne}
use Rattle.encode_types.specs.Known.{Around, Aliased, with_aliases, AreAliases, ReachesAround, as_before, aliased}
use Rattle.encode_types.proofs.{Around.with-both, Around.are-both, Encoding.meets-reaches, Lists.none-in, Rooms.reaches-then, Rooms.reached-left, Rooms.reached-right}
use Rattle.base_lemmas.proofs.Elements.{contains-one, last_of as one-contained}
use Rattle.wit_model.specs.declared.model.«Type».TheVariants as ty

-- none have been made
pub met-none : {r : Resolve} {own : Option InterfaceId} {ts : List ValueType} {a a' : Around} → a' ≡ a → AliasesMet r own ts a a'
met-none e = record { grown = record { made = []; are = tt; is = e }; met = λ x c. none-in x c }

pub met-then : {r : Resolve} {own : Option InterfaceId} {ts : List ValueType} {a b c : Around} → AliasesMet r own ts a b → AliasesMet r own ts b c → AliasesMet r own ts a c
met-then {r} {own} {ts} {a} {b} {c} p q = record {
  grown = record {
    made = p.grown.made ++ q.grown.made;
    are = are-both r a p.grown.made q.grown.made p.grown.are (subst (λ (z : Around). AreAliases r z q.grown.made) p.grown.is q.grown.are);
    is = q.grown.is ∙ ap (λ (z : Around). with_aliases z q.grown.made) p.grown.is ∙ with-both a p.grown.made q.grown.made;
  };
  met = λ x h. elim (Contains-append_cases p.grown.made q.grown.made x h) [ inl y ↦ p.met x y | inr y ↦ q.met x y ];
}

-- of types that are met from others, too
pub met-more : {r : Resolve} {own : Option InterfaceId} {ts us : List ValueType} {a b : Around} → ((n : ℕ) → ReachedFrom r own ts n → ReachedFrom r own us n) → AliasesMet r own ts a b
    → AliasesMet r own us a b
met-more f p = record { grown = p.grown; met = λ x c. let m = p.met x c in record { met = f x.number.0 m.met; def = m.def; there = m.there; interface = m.interface; foreign = m.foreign } }

-- one of this type, which is of another interface
pub met-one : {r : Resolve} {own : Option InterfaceId} {id : TypeId} {a b : Around} (def : TypeDef) (interface : InterfaceId) → type_at r id.0 ≡ Some def → foreign_owner own def.owner ≡ Some interface
    → ReachesAround r id a b → AliasesMet r own (ty.Id id ∷ []) a b
met-one def interface at f (as_before e) = met-none e
met-one {r} {own} {id} {a} {b} def interface at f (aliased x is n e) = record {
  grown = record { made = x ∷ []; are = (is, tt); is = e };
  met = λ y c. subst (λ (z : Aliased). IsMetElsewhere r own (ty.Id id ∷ []) z.number.0) (one-contained x y c)
      (subst (λ (z : TypeId). IsMetElsewhere r own (ty.Id id ∷ []) z.0) (sym n)
      (record { met = (ty.Id id, contains-one (ty.Id id), itself id); def = def; there = at; interface = interface; foreign = f }));
}

-- ---- between two encoders

pub makes-then : {r : Resolve} {own own' : Option InterfaceId} {ts : List ValueType} {a b c : Around} → own' ≡ own → AliasesMet r own ts a b → AliasesMet r own' ts b c → AliasesMet r own ts a c
makes-then {r} {own} {own'} {ts} {a} {b} {c} s p q = met-then p (subst (λ (z : Option InterfaceId). AliasesMet r z ts b c) s q)

-- from one list of types, and then from another
pub makes-both : {r : Resolve} {own own' : Option InterfaceId} {ts us : List ValueType} {a b c : Around} → own' ≡ own → AliasesMet r own ts a b → AliasesMet r own' us b c
    → AliasesMet r own (ts ++ us) a c
makes-both {r} {own} {own'} {ts} {us} s p q = makes-then s (met-more (reached-left ts us) p) (met-more (reached-right ts us) q)

-- with what makes none behind it
pub makes-same : {r : Resolve} {own : Option InterfaceId} {ts : List ValueType} {a b c : Around} → c ≡ b → AliasesMet r own ts a b → AliasesMet r own ts a c
makes-same {r} {own} {ts} {a} {b} {c} e p = subst (λ (z : Around). AliasesMet r own ts a z) (sym e) p

-- what is met from one number of an order
pub met-number : {r : Resolve} {own : Option InterfaceId} {m : TypeEncodingMaps} {ts : List ValueType} {items : List ℕ} {k : ℕ} → IsOrderOf r own m ts items → k < length items → (n : ℕ)
    → ReachedFrom r own (ty.Id (record { 0 = get_or items k 0 }) ∷ []) n → ReachedFrom r own ts n
met-number {r} {own} {m} {ts} {items} {k} o lt n reached =
    let met = o.added (get_or items k 0) (Contains-get_or items k 0 lt) in (
      met.0,
      met.1,
      reaches-then r own met.0 (get_or items k 0) (meets-reaches r own m met.0 _ met.2) n (subst (λ (t : ValueType). Reaches r own t n) (sym (one-contained _ reached.0 reached.1)) reached.2),
    )

-- from one number of an order
pub makes-number : {r : Resolve} {own own' : Option InterfaceId} {m : TypeEncodingMaps} {ts : List ValueType} {items : List ℕ} {a b c : Around} {k : ℕ} → own' ≡ own → IsOrderOf r own m ts items
    → k < length items → AliasesMet r own ts a b → AliasesMet r own' (ty.Id (record { 0 = get_or items k 0 }) ∷ []) b c → AliasesMet r own ts a c
makes-number {r} {own} {own'} {m} {ts} {items} {a} {b} {c} {k} s o lt p q =
    met-then p (met-more (met-number o lt) (subst (λ (z : Option InterfaceId). AliasesMet r z (ty.Id (record { 0 = get_or items k 0 }) ∷ []) b c) s q))

-- ---- imports in the scope itself

pub imports-none : {r : Resolve} {own : Option InterfaceId} {ts : List ValueType} {xs ys : ℕ → Bool} → ys ≡ xs → NumbersMet r own ts xs ys
imports-none e = record { each = λ n c. inl (subst (λ (zs : ℕ → Bool). zs n ≡ true) e c) }

pub imports-same : {r : Resolve} {own : Option InterfaceId} {ts : List ValueType} {xs ys zs : ℕ → Bool} → zs ≡ ys → NumbersMet r own ts xs ys → NumbersMet r own ts xs zs
imports-same {r} {own} {ts} {xs} {ys} {zs} e p = subst (λ (us : ℕ → Bool). NumbersMet r own ts xs us) (sym e) p

pub imports-then : {r : Resolve} {own own' : Option InterfaceId} {ts : List ValueType} {xs ys zs : ℕ → Bool} → own' ≡ own → NumbersMet r own ts xs ys → NumbersMet r own' ts ys zs
    → NumbersMet r own ts xs zs
imports-then {r} {own} {own'} {ts} {xs} {ys} {zs} s p q = record {
  each = λ n c. elim ((subst (λ (z : Option InterfaceId). NumbersMet r z ts ys zs) s q).each n c) [ inl old ↦ p.each n old | inr new ↦ inr new ];
}

pub imports-more : {r : Resolve} {own : Option InterfaceId} {ts us : List ValueType} {xs ys : ℕ → Bool} → ((n : ℕ) → ReachedFrom r own ts n → ReachedFrom r own us n) → NumbersMet r own ts xs ys
    → NumbersMet r own us xs ys
imports-more f p = search std_rules

pub imports-both : {r : Resolve} {own own' : Option InterfaceId} {ts us : List ValueType} {xs ys zs : ℕ → Bool} → own' ≡ own → NumbersMet r own ts xs ys → NumbersMet r own' us ys zs
    → NumbersMet r own (ts ++ us) xs zs
imports-both {r} {own} {own'} {ts} {us} s p q = imports-then s (imports-more (reached-left ts us) p) (imports-more (reached-right ts us) q)

-- one of this type, which is of another interface
pub imports-one : {r : Resolve} {own : Option InterfaceId} {id : TypeId} {xs ys : ℕ → Bool} (def : TypeDef) (interface : InterfaceId) → type_at r id.0 ≡ Some def
    → foreign_owner own def.owner ≡ Some interface → ImportsOne id xs ys → NumbersMet r own (ty.Id id ∷ []) xs ys
imports-one {r} {own} {id} {xs} {ys} def interface at f one = record {
  each = λ n c. elim (one.each n c) [
    | inl old ↦ inl old
    | inr e ↦ inr (subst (λ (m : ℕ). IsMetElsewhere r own (ty.Id id ∷ []) m) (sym e)
        (record { met = (ty.Id id, contains-one (ty.Id id), itself id); def = def; there = at; interface = interface; foreign = f }))
  ];
}

-- from one number of an order
pub imports-number : {r : Resolve} {own own' : Option InterfaceId} {m : TypeEncodingMaps} {ts : List ValueType} {items : List ℕ} {xs ys zs : ℕ → Bool} {k : ℕ} → own' ≡ own → IsOrderOf r own m ts items
    → k < length items → NumbersMet r own ts xs ys → NumbersMet r own' (ty.Id (record { 0 = get_or items k 0 }) ∷ []) ys zs → NumbersMet r own ts xs zs
imports-number {r} {own} {own'} {m} {ts} {items} {xs} {ys} {zs} {k} s o lt p q =
    imports-then refl p (imports-more (met-number o lt) (subst (λ (z : Option InterfaceId). NumbersMet r z (ty.Id (record { 0 = get_or items k 0 }) ∷ []) ys zs) s q))
