-- The order in which types are defined, made step by step.
use Rattle.std.proofs.Common.{rules as std_rules, ◌≡◌, refl, sym, subst, ap, ◌∙◌, ℕ, ◌+◌, ◌<◌, ◌≤◌, List, [], ◌∷◌, ◌++◌, ◌⊎◌, inl, inr, Option, Some, None, length, take, get_or, arith, length-append, below_more, true, false, nat_lt, T, ltb→lt, Bool, nat_eq, zero, suc, ◌||◌, cond, drop, Decides}
use Rattle.std.proofs.{lemmas.Bool.eq-eqb, lemmas.Bool.false_from_ne_true, lemmas.Bool.Decides.Decides-eqb, Math.Seq.get_or-append_seam}
use Rattle.std.proofs.lemmas.{Cmp.nat_cmp_total, Cmp.nat_eq_equiv, Map.Lookups.exact_unsigned, Map.Keys.IsDistinct-push, Map.Made.is_member-Decides}
use Rattle.std.proofs.lemmas.List.Elements.{Contains-append_right, Contains-append_cases, Contains-append_left, Contains-push_cases, Contains-push}
use Rattle.std.proofs.lemmas.List.{take_more, take_all, take-append-le, take_at, get_or_append_left, take-append-drop, drop-append-le}
use Rattle.std.specs.{Prelude.slice_index, List.Contains, List.IsDistinct, List.list_any, Ordering.nat_cmp, Ordering.is_eq, Option.is_some, Set.is_member, BTreeSet.contains, BTreeMap.is_at}
use Rattle.encode_types.proofs.{Tables.equal-is, Tables.equal-self, Lists.none-in}
use Rattle.wit_model.specs.{Lookup.type_at, Parts.kind_numbers, Parts.member_types}
use Rattle.wit_model.specs.declared.model.{Resolve.Resolve, TypeDef.TypeDef, TypeDefKind.TypeDefKind, InterfaceId.InterfaceId, «Type».«Type» as ValueType}
use Rattle.wit_model.specs.declared.model.TypeId.{TypeId}
use Rattle.encode_types.{specs.declared.maps.TypeEncodingMaps.TypeEncodingMaps, specs.declared.plan.Order.Order, specs.Kinds.parts_of, specs.Maps.IsKnown}
use Rattle.encode_types.specs.Plan.{foreign_owner, Meets, at_once, further, IsLayered, PartsStand, IsOrdered, AreMet, Stands, IsPlanned, IsOrderOf, rank}
use Rattle.wit_model.proofs.Elements.{contains-filter_map}
use Rattle.base_lemmas.proofs.{Elements.all-contained, Elements.contains-one, Elements.last_of as one-contained, Numbers.none-twice}
use Rattle.wit_model.specs.declared.model.«Type».TheVariants as ty

pub none-of : {A : Type 0} (o : Option A) → is_some o ≡ false → o ≡ None
none-of x e = search std_rules

-- ---- parts have smaller numbers

member-number : (k : TypeDefKind) (id : TypeId) → Contains (member_types k) (ty.Id id) → Contains (kind_numbers k) id.0
member-number k id c = search (std_rules, Contains-append_left, contains-filter_map, contains-one)

pub part-number : (k : TypeDefKind) (id : TypeId) → Contains (parts_of k) (ty.Id id) → Contains (kind_numbers k) id.0
part-number z id c = search (std_rules, one-contained, contains-one, member-number)

pub part-smaller : (r : Resolve) → IsLayered r → (n : ℕ) (def : TypeDef) (id : TypeId) → type_at r n ≡ Some def → Contains (parts_of def.kind) (ty.Id id) → id.0 < n
part-smaller r l n def id at c = ltb→lt id.0 n (subst T (sym (all-contained (λ m. nat_lt m n) (kind_numbers def.kind) id.0 (l.smaller n def at) (part-number def.kind id c))) tt)

pub rank_below : (n : ℕ) (p : ValueType) → ((id : TypeId) → p ≡ ty.Id id → id.0 < n) → rank p < n + 1
rank_below n x h = search std_rules

-- ---- numbers of a list

pub lacks-member : (xs : List ℕ) (n : ℕ) → (Contains xs n → ⊥) → is_member nat_eq xs n ≡ false
lacks-member xs n h = false_from_ne_true _ (λ e. h ((is_member-Decides Decides-eqb xs n).0 e))

found-first : (xs : List ℕ) (n : ℕ) → Contains xs n → list_any (λ y. nat_eq y n) xs ≡ true
found-first [] n (i, l, e) = absurd (omega (arith, l))
found-first (x ∷ xs) n (zero, l, e) = ap (λ b. b || list_any (λ y. nat_eq y n) xs) (eq-eqb x n e)
found-first (x ∷ xs) n (suc i, l, e) = search (std_rules, found-first xs n (i, omega (arith, l), e))

-- what doesn't stand among the first stands where it is met
pub met-decides : (order : Order) (front : List ℕ) (n : ℕ) → AreMet order → front ≡ take 8 order.numbers.items → list_any (λ y. nat_eq y n) front ≡ false
    → Decides (contains nat_cmp order.met n) (Contains order.numbers.items n)
met-decides order front n met is lacks = (
  λ h. rw (← take-append-drop 8 order.numbers.items) (Contains-append_right (take 8 order.numbers.items) (drop 8 order.numbers.items) n ((met n).0 h)),
  λ c. elim (Contains-append_cases (take 8 order.numbers.items) (drop 8 order.numbers.items) n (rw take-append-drop c)) [
    | inl a ↦ absurd (let e : list_any (λ y. nat_eq y n) front ≡ true = found-first front n (rw is a) in let z : ⊥ = cc in z)
    | inr b ↦ (met n).1 b
  ],
)

pub met-more : (order after : Order) (n : ℕ) → AreMet order → after.numbers.items ≡ order.numbers.items ++ n ∷ [] → 8 < length after.numbers.items
    → ((q : ℕ) → contains nat_cmp after.met q ≡ cond (is_at (nat_cmp n) q) true (contains nat_cmp order.met q)) → AreMet after
met-more order after n met is many adds q = by (is_at (nat_cmp n) q) refl
  where
    rest : drop 8 after.numbers.items ≡ drop 8 order.numbers.items ++ n ∷ []
    rest = let l : 8 ≤ length order.numbers.items = omega (arith, many, length-append order.numbers.items (n ∷ []), ap length is) in ap (drop 8) is ∙ drop-append-le 8 order.numbers.items (n ∷ []) l

    now : (b : Bool) → is_at (nat_cmp n) q ≡ b → contains nat_cmp after.met q ≡ cond b true (contains nat_cmp order.met q)
    now b e = adds q ∙ ap (λ b. cond b true (contains nat_cmp order.met q)) e

    by : (b : Bool) → is_at (nat_cmp n) q ≡ b → Decides (contains nat_cmp after.met q) (Contains (drop 8 after.numbers.items) q)
    by true e = (λ h. rw (rest, ← exact_unsigned n q (equal-is _ e)) (Contains-push (drop 8 order.numbers.items) n), λ c. now true e)
    by false e = (
      λ h. rw rest (Contains-append_left (drop 8 order.numbers.items) (n ∷ []) q ((met q).0 (sym (now false e) ∙ h))),
      λ c. now false e ∙ elim (Contains-push_cases (drop 8 order.numbers.items) n q (rw rest at c)) [
        | inl a ↦ (met q).1 a
        | inr same ↦ absurd (let t : is_at (nat_cmp n) q ≡ true = subst (λ (m : ℕ). is_at (nat_cmp n) m ≡ true) same (ap is_eq (equal-self nat_cmp_total n)) in let z : ⊥ = cc in z)
      ],
    )

pub lacks-now : (b : Bool) (xs : List ℕ) (n : ℕ) → Decides b (Contains xs n) → b ≡ false → Contains xs n → ⊥
lacks-now b xs n d e c = let t : b ≡ true = d.1 c in let z : ⊥ = cc in z

-- ---- the order

module _ (r : Resolve) (own : Option InterfaceId) (m : TypeEncodingMaps) where
  pub planned-none : (order : Order) (ts : List ValueType) → order.numbers.items ≡ [] → order.met.keys ≡ [] → IsPlanned r own m [] ts 0 order
  planned-none order ts e none = search (std_rules, none-in, none-twice)

  pub planned-step : (before : List ℕ) (ts : List ValueType) (i : ℕ) (mid after : Order) (d : ValueType) → i < length ts → IsPlanned r own m before ts i mid
      → IsPlanned r own m mid.numbers.items (get_or ts i d ∷ []) 1 after → IsPlanned r own m before ts (i + 1) after
  planned-step before ts i mid after d lt w p = record {
    kept = λ n h. p.kept n (w.kept n h);
    added = λ n h. elim (p.added n h) [
      | inl h' ↦ elim (w.added n h') [ inl q ↦ inl q | inr q ↦ inr (q.0, rw (take_more ts i d lt) (Contains-append_left (take i ts) _ q.0 q.1), q.2) ]
      | inr q ↦ inr (q.0, rw (take_more ts i d lt, ← one-contained (get_or ts i d) q.0 q.1) (Contains-push (take i ts) (get_or ts i d)), q.2)
    ];
    ordered = p.ordered;
    met = p.met;
    once = p.once;
    stands = λ t h. elim (Contains-push_cases _ _ _ (subst (λ (xs : List ValueType). Contains xs t) (take_more ts i d lt) h)) [
      | inl q ↦ (λ id e. elim (w.stands t q id e) [ inl k ↦ inl k | inr c ↦ inr (p.kept id.0 c) ])
      | inr e' ↦ (λ id e. p.stands (get_or ts i d) (contains-one (get_or ts i d)) id (e' ∙ e))
    ];
  }

  ordered-push : (a : List ℕ) (x : ℕ) → IsOrdered r own m a → PartsStand r own m a x → IsOrdered r own m (a ++ x ∷ [])
  ordered-push a x o p k lt = below_more (λ k. PartsStand r own m (take k (a ++ x ∷ [])) (slice_index (a ++ x ∷ []) k)) (length a) (λ k q. let q' : k ≤ length a = omega arith in
      rw (take-append-le k a (x ∷ []) q', get_or_append_left a (x ∷ []) 0 k q) (o k q)) (rw (take_at a (x ∷ []) (length a) refl, get_or-append_seam a x [] 0) p)
      k (let e = length-append a (x ∷ []) in omega arith)

  stands-one : (order : List ℕ) (x : ValueType) → Stands m order x → (t : ValueType) → Contains (x ∷ []) t → Stands m order t
  stands-one order x s t c id e = s id (one-contained x t c ∙ e)

  pub planned-push : (before a : List ℕ) (after : Order) (id : TypeId) → (IsKnown m id.0 → ⊥) → after.numbers.items ≡ a ++ id.0 ∷ [] → AreMet after → ((n : ℕ) → Contains before n → Contains a n)
      → ((n : ℕ) → Contains a n → Contains before n ⊎ Meets r own m (ty.Id id) n) → IsOrdered r own m a → PartsStand r own m a id.0
      → IsDistinct nat_eq a → (Contains a id.0 → ⊥) → IsPlanned r own m before (ty.Id id ∷ []) 1 after
  planned-push before a after id lacks is met kept added o p once new = record {
    kept = λ n h. subst (λ (xs : List ℕ). Contains xs n) (sym is) (Contains-append_left a _ n (kept n h));
    added = λ n h. elim (Contains-push_cases a id.0 n (subst (λ (xs : List ℕ). Contains xs n) is h)) [
      | inl q ↦ elim (added n q) [ inl b ↦ inl b | inr re ↦ inr (ty.Id id, contains-one (ty.Id id), re) ]
      | inr e ↦ inr (ty.Id id, contains-one (ty.Id id), subst (λ x. Meets r own m (ty.Id id) x) e (at_once id lacks))
    ];
    ordered = subst (λ (xs : List ℕ). IsOrdered r own m xs) (sym is) (ordered-push a id.0 o p);
    met = met;
    once = subst (λ (xs : List ℕ). IsDistinct nat_eq xs) (sym is) (IsDistinct-push nat_eq_equiv a id.0 once (lacks-member a id.0 new));
    stands = stands-one after.numbers.items (ty.Id id) (λ id' e. inr (let e' : id ≡ id' = cc in
        subst (λ (x : TypeId). Contains after.numbers.items x.0) e' (subst (λ (xs : List ℕ). Contains xs id.0) (sym is) (Contains-push a id.0))));
  }

  pub planned-foreign : (before : List ℕ) (after : Order) (id : TypeId) (def : TypeDef) → (IsKnown m id.0 → ⊥) → after.numbers.items ≡ before ++ id.0 ∷ [] → AreMet after → IsOrdered r own m before
      → type_at r id.0 ≡ Some def → is_some (foreign_owner own def.owner) ≡ true → IsDistinct nat_eq before → (Contains before id.0 → ⊥) → IsPlanned r own m before (ty.Id id ∷ []) 1 after
  planned-foreign before after id def lacks is met o at f once new = planned-push before before after id lacks is met (λ n h. h) (λ n h. inl h) o
      (λ def' p at' f' c. let e : def ≡ def' = cc in let bad : true ≡ false = sym f ∙ ap (λ (x : TypeDef). is_some (foreign_owner own x.owner)) e ∙ ap is_some f' in absurd (let z : ⊥ = cc in z))
      once new

  part-below : IsLayered r → (n : ℕ) (def : TypeDef) → type_at r n ≡ Some def → (t : ValueType) → Contains (parts_of def.kind) t → rank t < n + 1
  part-below l n def at t c = rank_below n t (λ id e. part-smaller r l n def id at (subst (λ (x : ValueType). Contains (parts_of def.kind) x) e c))

  -- what is met on the way down from a type is no larger
  meets-below : IsLayered r → (t : ValueType) (n : ℕ) → Meets r own m t n → n < rank t
  meets-below l _ _ (at_once id lacks) = omega arith
  meets-below l _ _ (further id def t n lacks at f c p) = let below = meets-below l t n p in let fall = part-below l id.0 def at t c in omega (arith, below, fall)

  pub planned-own : (before : List ℕ) (mid after : Order) (id : TypeId) (def : TypeDef) (ts : List ValueType) (i : ℕ) → (IsKnown m id.0 → ⊥) → after.numbers.items ≡ mid.numbers.items ++ id.0 ∷ []
      → AreMet after → type_at r id.0 ≡ Some def → is_some (foreign_owner own def.owner) ≡ false → ts ≡ parts_of def.kind → length ts ≤ i
      → IsLayered r → (Contains before id.0 → ⊥) → IsPlanned r own m before ts i mid → IsPlanned r own m before (ty.Id id ∷ []) 1 after
  planned-own before mid after id def ts i lacks is met at f e le l new w =
      let there : (p : ValueType) → Contains (take i ts) p → Contains (parts_of def.kind) p = λ p c. rw (take_all i ts le ∙ e) at c in
      planned-push before mid.numbers.items after id lacks is met w.kept (λ n h. elim (w.added n h) [ inl q ↦ inl q | inr q ↦ inr (further id def q.0 n lacks at (none-of _ f) (there q.0 q.1) q.2) ])
      w.ordered (λ def' p at' f' c. let d : def ≡ def' = cc in
      w.stands (ty.Id p) (subst (λ (xs : List ValueType). Contains xs (ty.Id p)) (ap (λ (x : TypeDef). parts_of x.kind) (sym d) ∙ sym e ∙ sym (take_all i ts le)) c) p refl)
      w.once (λ h. elim (w.added id.0 h) [ inl q ↦ new q | inr q ↦ omega (arith, meets-below l q.0 id.0 q.2, part-below l id.0 def at q.0 (there q.0 q.1)) ])

  -- nothing has to be added
  pub planned-there : (order : Order) (before : List ℕ) (t : ValueType) → order.numbers.items ≡ before → IsOrdered r own m before → AreMet order → IsDistinct nat_eq before → Stands m before t
      → IsPlanned r own m before (t ∷ []) 1 order
  planned-there order before t is o met once s = record {
    kept = λ n h. subst (λ (xs : List ℕ). Contains xs n) (sym is) h;
    added = λ n h. inl (subst (λ (xs : List ℕ). Contains xs n) is h);
    ordered = subst (λ (xs : List ℕ). IsOrdered r own m xs) (sym is) o;
    met = met;
    once = subst (λ (xs : List ℕ). IsDistinct nat_eq xs) (sym is) once;
    stands = stands-one order.numbers.items t (subst (λ (xs : List ℕ). Stands m xs t) (sym is) s);
  }

  pub stands-id : (order : List ℕ) (id : TypeId) → IsKnown m id.0 ⊎ Contains order id.0 → Stands m order (ty.Id id)
  stands-id order id k id' e = let e' : id ≡ id' = cc in subst (λ (x : TypeId). IsKnown m x.0 ⊎ Contains order x.0) e' k

  pub order-done : (before items : List ℕ) (order : Order) (ts : List ValueType) (i : ℕ) → before ≡ [] → items ≡ order.numbers.items → length ts ≤ i → IsPlanned r own m before ts i order
      → IsOrderOf r own m ts items
  order-done before items order ts i e s le p = record {
    added = λ n h. elim (p.added n (rw s at h)) [ inl q ↦ absurd (none-in n (rw e at q)) | inr q ↦ (q.0, (rw (take_all i ts le) at q.1), q.2) ];
    ordered = subst (λ (xs : List ℕ). IsOrdered r own m xs) (sym s) p.ordered;
    once = subst (λ (xs : List ℕ). IsDistinct nat_eq xs) (sym s) p.once;
    stands = λ t c. subst (λ (xs : List ℕ). Stands m xs t) (sym s) (p.stands t (subst (λ (xs : List ValueType). Contains xs t) (sym (take_all i ts le)) c));
  }
