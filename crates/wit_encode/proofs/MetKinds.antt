-- Maps that began empty hold the kinds of the unnamed types that are met, each once.
use Rattle.std.proofs.Common.{rules as std_rules, ◌≡◌, refl, sym, subst, ◌∙◌, ℕ, zero, suc, ◌<◌, ◌⊎◌, inl, inr, true, false, List, [], ◌∷◌, map, length, get_or, arith, Option}
use Rattle.std.specs.{Prelude.AllPairs, List.Contains, List.AllZip, Cmp.Lexicographic.pointwise}
use Rattle.wit_model.specs.{Rules.is_named_kind, Valid.IsValid}
use Rattle.wit_model.specs.declared.model.{Resolve.Resolve, Param.Param, TypeDefKind.TypeDefKind, InterfaceId.InterfaceId, «Type».«Type» as ValueType}
use Rattle.encode_types.specs.declared.maps.TypeEncodingMaps.{TypeEncodingMaps}
use Rattle.encode_types.specs.{Key.same_param, Codes.kind_code, Codes.lists_of, Codes.ListKey, Plan.Reaches, Plan.itself, Plan.through}
use Rattle.encode_types.specs.Maps.{same_kind, IsKnown, IsReady, AllReady, IsOnce, LearnsOnly}
use Rattle.encode_types.specs.MetKinds.{ReachedFrom, IsMetKind, HasSame, AreMetKinds, IsKnownKind, IsHeld, Learns, MetKindsAreHeld}
use Rattle.encode_types.proofs.{Lists.none-in, EqualLists.kinds-of-lists, EqualLists.lists-of-kinds, KindLaws.same_types}
use Rattle.wit_encode.proofs.{OwnerScope.unnamed-home, Validity.valid-unnamed}
use Rattle.base_lemmas.proofs.{Bools.left_of as first_true, Bools.right_of as second_true, Elements.zip_long, Elements.zip_map}
use Rattle.std.proofs.lemmas.Bool.{false_from_ne_true}

-- ---- empty maps

none-known : (m : TypeEncodingMaps) (n : ℕ) → m.id_to_index.entries ≡ [] → IsKnown m n → ⊥
none-known m n e (i, c) = none-in (n, i) (subst (λ (xs : List (ℕ × ℕ)). Contains xs (n, i)) e c)

-- ---- one kind for each entry

-- this is the list of an unnamed kind that is known
record IsKindOf (r : Resolve) (m : TypeEncodingMaps) (xs : List ℕ) (kind : TypeDefKind) : Type 0 where
  pub is : xs ≡ kind_code kind
  pub unnamed : is_named_kind kind ≡ false
  pub known : IsKnownKind r m kind

abbrev AreKindsOf : Resolve → TypeEncodingMaps → List TypeDefKind → List (List ℕ × ℕ) → Type 0
AreKindsOf r m ks es = AllZip (λ k e. IsKindOf r m e.0 k) ks es

kinds-at : (r : Resolve) (m : TypeEncodingMaps) (es : List (List ℕ × ℕ)) → ((xs : List ℕ) (i : ℕ) → Contains es (xs, i) → (k : TypeDefKind) × IsKindOf r m xs k) → (ks : List TypeDefKind)
    × AreKindsOf r m ks es
kinds-at r m [] h = ([], tt)
kinds-at r m (e ∷ es) h = let x = h e.0 e.1 (0, omega arith, refl) in let more = kinds-at r m es (λ xs i c. h xs i (suc c.0, omega (arith, c.1), c.2)) in (x.0 ∷ more.0, (x.1, more.1))

kind-lists : (r : Resolve) (m : TypeEncodingMaps) (ks : List TypeDefKind) (es : List (List ℕ × ℕ)) → AreKindsOf r m ks es → map (λ e. e.0) es ≡ map kind_code ks
kind-lists r m ks es h = zip_map (λ k (e : List ℕ × ℕ). IsKindOf r m e.0 k) kind_code (λ e. e.0) (λ k e x. x.is) ks es h

kind-at : (r : Resolve) (m : TypeEncodingMaps) (ks : List TypeDefKind) (es : List (List ℕ × ℕ)) → AreKindsOf r m ks es → (i : ℕ) (d : TypeDefKind) (e : List ℕ × ℕ) → i < length ks
    → IsKindOf r m (get_or es i e).0 (get_or ks i d)
kind-at r m [] es h i d e l = absurd (omega (arith, l))
kind-at r m (k ∷ ks) [] h i d e l = absurd h
kind-at r m (k ∷ ks) (x ∷ es) h zero d e l = h.0
kind-at r m (k ∷ ks) (x ∷ es) h (suc i) d e l = kind-at r m ks es h.1 i d e (omega (arith, l))

kind-there : (r : Resolve) (m : TypeEncodingMaps) (ks : List TypeDefKind) (es : List (List ℕ × ℕ)) → AreKindsOf r m ks es → (k : TypeDefKind) → Contains ks k → IsKnownKind r m k
kind-there r m [] es h k c = none-in k c
kind-there r m (x ∷ ks) [] h k c = absurd h
kind-there r m (x ∷ ks) (e ∷ es) h k (zero, l, q) = subst (IsKnownKind r m) q h.0.known
kind-there r m (x ∷ ks) (e ∷ es) h k (suc i, l, q) = kind-there r m ks es h.1 k (i, omega (arith, l), q)

list-there : (r : Resolve) (m : TypeEncodingMaps) (ks : List TypeDefKind) (es : List (List ℕ × ℕ)) → AreKindsOf r m ks es → (e : List ℕ × ℕ) → Contains es e → (k : TypeDefKind) × Contains ks k
    × IsKindOf r m e.0 k
list-there r m ks [] h e c = none-in e c
list-there r m [] (x ∷ es) h e c = absurd h
list-there r m (k ∷ ks) (x ∷ es) h e (zero, l, q) = (k, (0, omega arith, refl), subst (λ (z : List ℕ × ℕ). IsKindOf r m z.0 k) q h.0)
list-there r m (k ∷ ks) (x ∷ es) h e (suc i, l, q) = let more = list-there r m ks es h.1 e (i, omega (arith, l), q) in
    (more.0, (suc more.1.0, omega (arith, more.1.1), more.1.2), more.2)

kinds-apart : (r : Resolve) (m : TypeEncodingMaps) (ks : List TypeDefKind) (es : List (List ℕ × ℕ)) → AreKindsOf r m ks es → AllPairs (λ x y. x.0 ≡ y.0 → ⊥) es
    → AllPairs (λ x y. same_kind x y ≡ false) ks
kinds-apart r m ks es h p i j d l n = false_from_ne_true _ (λ e.
    let first = kind-at r m ks es h i d ([], 0) (omega (arith, l, n)) in
    p i j ([], 0) l (omega (arith, zip_long (λ k (e : List ℕ × ℕ). IsKindOf r m e.0 k) ks es h, n))
    (first.is ∙ lists-of-kinds (get_or ks i d) (get_or ks j d) first.unnamed e ∙ sym (kind-at r m ks es h j d ([], 0) n).is))

-- ---- keys

pub params-same : (ps qs : List Param) → pointwise same_param ps qs ≡ true → map (λ p. p.ty) ps ≡ map (λ p. p.ty) qs
params-same [] [] e = refl
params-same [] (q ∷ qs) e = absurd cc
params-same (p ∷ ps) [] e = absurd cc
params-same (p ∷ ps) (q ∷ qs) e = search (std_rules, first_true, same_types, second_true, params-same ps qs (second_true (same_param p q) (pointwise same_param ps qs) e))

module _ (r : Resolve) (v : IsValid r) (own : Option InterfaceId) (ts : List ValueType) (m m' : TypeEncodingMaps) (learns : Learns r own m m') where
  module _ (none : m.id_to_index.entries ≡ []) where
    -- what is met from a type that is known is known
    reached-known : (t : ValueType) (n : ℕ) → Reaches r own t n → IsReady m' t → IsKnown m' n
    reached-known _ _ (itself id) ready = ready id refl
    reached-known _ _ (through id def t n at f c re) ready = reached-known t n re (part (learns.numbers id.0 def (ready id refl) at f))
      where
        part : IsKnown m id.0 ⊎ IsHeld m' def → IsReady m' t
        part (inl k) = absurd (none-known m id.0 none k)
        part (inr h) = h.parts t c

    module _ (no_kinds : m.def_to_index.entries ≡ []) (ready : AllReady m' ts) (only : LearnsOnly (ReachedFrom r own ts) m m') (once : IsOnce m') where
      abbrev held : List (List ℕ × ℕ)
      held = lists_of m'.def_to_index

      kind-of : (xs : List ℕ) (i : ℕ) → Contains held (xs, i) → (k : TypeDefKind) × IsKindOf r m' xs k
      kind-of xs i c = elim (learns.kinds xs i c) [
        | inl h ↦ none-in (xs, i) (subst (λ (es : List (ListKey × ℕ)). Contains (map {B = List ℕ × ℕ} (λ e. (e.0.0.items, e.1)) es) (xs, i)) no_kinds h)
        | inr k ↦ (k.kind, record { is = k.is; unnamed = unnamed k.kind k.known; known = k.known })
      ]
        where
          unnamed : (kind : TypeDefKind) → IsKnownKind r m' kind → is_named_kind kind ≡ false
          unnamed kind k = subst (λ (z : TypeDefKind). is_named_kind z ≡ false) k.same (valid-unnamed r v k.number k.def k.there k.unnamed)

      made : (ks : List TypeDefKind) × AreKindsOf r m' ks held
      made = kinds-at r m' held kind-of

      met : (kind : TypeDefKind) → IsKnownKind r m' kind → IsMetKind r own ts kind
      met kind k = record {
        number = k.number;
        met = elim (only.each k.number k.known.0 k.known.1) [ inl h ↦ absurd (none-known m k.number none (k.known.0, h)) | inr q ↦ q ];
        def = k.def;
        there = k.there;
        unnamed = k.unnamed;
        same = k.same;
      }

      met-held : (kind : TypeDefKind) → IsMetKind r own ts kind → HasSame made.0 kind
      met-held kind k =
          let known = reached-known k.met.0 k.number k.met.2 (ready k.met.0 k.met.1) in
          subst (HasSame made.0) k.same (has (learns.numbers k.number k.def known k.there (unnamed-home r v own k.number k.def k.there k.unnamed)))
        where
          has : IsKnown m k.number ⊎ IsHeld m' k.def → HasSame made.0 k.def.kind
          has (inl h) = absurd (none-known m k.number none h)
          has (inr h) =
              let x = h.kind k.unnamed in
              let there = list-there r m' made.0 held made.1 (kind_code k.def.kind, x.0) x.1.1 in
              (there.0, there.1, kinds-of-lists there.0 k.def.kind there.2.unnamed x.1.0 (sym there.2.is))

      pub met-kinds : (kinds : List TypeDefKind) × (map (λ e. e.0) held ≡ map kind_code kinds) × AreMetKinds r own ts kinds
      met-kinds = (
        made.0,
        kind-lists r m' made.0 held made.1,
        record {
          different = kinds-apart r m' made.0 held made.1 once.kinds;
          met = λ kind c. met kind (kind-there r m' made.0 held made.1 kind c);
          all = met-held;
        },
      )

pub met_kinds_are_held : MetKindsAreHeld
met_kinds_are_held r own ts m m' v none no_kinds learns only ready once = met-kinds r v own ts m m' learns none no_kinds ready only once
