-- How much an encoder holds, and what it has no room for, call after call.
use Rattle.std.proofs.Common.{rules as std_rules, ◌≡◌, refl, sym, subst, ap, ◌∙◌, ℕ, ◌+◌, ◌*◌, ◌<◌, ◌≤◌, ◌&&◌, ◌⊎◌, inl, inr, Bool, false, cond, List, [], ◌∷◌, ◌++◌, map, length, length-append, append-nil, take, drop, Option, Some, None, arith, nat_eq, Result, OnOk}
use Rattle.std.proofs.lemmas.{List.Concat.flat_map-append, List.map-append, List.take-append-drop, List.Kept.AllPairs-cons, Bool.eqb-true, Bool.false_from_ne_true, Bool.or_from as neither, Option.same_Some as some-same}
use Rattle.std.proofs.lemmas.List.{Sorted.IsPermutation-sym, Sorted.Contains-permutation, Sorted.length_permutation, Sums.sum_by-cons, Sums.sum_by-append}
use Rattle.std.proofs.lemmas.List.Elements.{Contains-append_left, Contains-append_right, Contains-append_cases, Contains-get_or}
use Rattle.std.specs.{Prelude.flat_map, Prelude.is_none, Prelude.option_and_then, Prelude.String, Prelude.IsPermutation, List.Contains, List.AllPairs}
use Rattle.std.specs.declared.alloc.Global.{Global}
use Rattle.wit_model.specs.{Lookup.type_at, Rules.is_named_kind}
use Rattle.wit_model.specs.declared.model.{Resolve.Resolve, TypeDef.TypeDef, TypeDefKind.TypeDefKind, InterfaceId.InterfaceId, «Type».«Type» as ValueType}
use Rattle.wit_model.specs.declared.model.TypeId.{TypeId}
use Rattle.encode_types.specs.declared.maps.TypeEncodingMaps.{TypeEncodingMaps}
use Rattle.encode_types.specs.{Codes.lists_of, MetKinds.ReachedFrom, Distinct.has_own_definition}
use Rattle.encode_types.specs.Plan.{foreign_owner, Reaches, itself, through, IsOrderOf, MetFrom}
use Rattle.encode_types.specs.Maps.{same_kind, IsKnown, HasKind, LacksKind, LearnsOnly, MapsGrow, by_kind}
use Rattle.encode_types.specs.Room.{Request, Refusals, number_count, numbers_count, unnamed_kind, are_one_kind, share_declarations, IsNewKind, AreNew, HoldsFor, LacksPart, LacksOne, a_type, a_request, FindsNoRoom}
use Rattle.encode_types.proofs.{Agree.known-grow, EqualLists.lists-of-kinds, Lists.none-in, Encoding.meets-reaches, Pairs.pairs-head, Pairs.pairs-tail}
use Rattle.base_lemmas.proofs.{Bools.first_false as first-false, Elements.contains-one, Elements.contains-later, Elements.first-contained, Elements.last_of as one-contained}
use Rattle.wit_model.specs.declared.model.«Type».TheVariants as ty

-- ---- lists without repeats

pub pairs-both : {X : Type 0} (R : X → X → Type 0) (xs ys : List X) → AllPairs R xs → AllPairs R ys → ((x y : X) → Contains xs x → Contains ys y → R x y) → AllPairs R (xs ++ ys)
pairs-both R [] ys a b h = b
pairs-both {X} R (x ∷ xs) ys a b h = AllPairs-cons R x (xs ++ ys) (λ i d l. elim (Contains-append_cases xs ys _ (Contains-get_or (xs ++ ys) i d l))
    [ inl c ↦ pairs-head R x xs _ a c | inr c ↦ h x _ (first-contained x xs) c ]) (pairs-both R xs ys (pairs-tail R x xs a) b (λ y z c d. h y z (contains-later x xs y c) d))

-- ---- type numbers that are new

-- numbers that have declarations of their own are different
pub are-different : (r : Resolve) (own : Option InterfaceId) (xs : List ℕ) → AllPairs (λ x y. share_declarations r own x y ≡ false) xs → AllPairs (λ x y. nat_eq x y ≡ false) xs
are-different r own xs h = λ i j d l m. first-false _ _ (h i j d l m)

-- one of which the kind is known, where it has no name
abbrev HasItsKind : Resolve → Option InterfaceId → TypeEncodingMaps → ℕ → Type 0
HasItsKind r own m n = (kind : TypeDefKind) → unnamed_kind r own n ≡ Some kind → (i : ℕ) × HasKind m kind i

abbrev LacksItsKind : Resolve → Option InterfaceId → TypeEncodingMaps → ℕ → Type 0
LacksItsKind r own m n = (kind : TypeDefKind) → unnamed_kind r own n ≡ Some kind → IsNewKind m kind

-- a number that is known, and one that is new
known-apart : (r : Resolve) (own : Option InterfaceId) (m : TypeEncodingMaps) (x y : ℕ) → IsKnown m x → HasItsKind r own m x → (IsKnown m y → ⊥) → LacksItsKind r own m y
    → share_declarations r own x y ≡ false
known-apart r own m x y known has unknown lacks = neither _ _
    (false_from_ne_true _ (λ e. unknown (subst (IsKnown m) (eqb-true x y e) known))) (differ (unnamed_kind r own x) (unnamed_kind r own y) has lacks)
  where
    differ : (a b : Option TypeDefKind) → ((k : TypeDefKind) → a ≡ Some k → (i : ℕ) × HasKind m k i) → ((k : TypeDefKind) → b ≡ Some k → IsNewKind m k) → are_one_kind a b ≡ false
    differ None b p q = refl
    differ (Some k) None p q = refl
    differ (Some k) (Some l) p q = false_from_ne_true (same_kind k l) (λ e. let h = p k refl in
        (q l refl).lacks h.0 (subst (λ (xs : List ℕ). Contains (lists_of m.def_to_index) (xs, h.0)) (lists-of-kinds k l h.1.0 e) h.1.1))

kind-before : (a b : TypeEncodingMaps) (kind : TypeDefKind) → MapsGrow a b → IsNewKind b kind → IsNewKind a kind
kind-before a b kind g h = record { unnamed = h.unnamed; lacks = λ i c. h.lacks i (g.keeps (by_kind kind) i (h.unnamed, c)).1 }

-- numbers that are new, one after the other
new-both : {r : Resolve} {own : Option InterfaceId} {a b : TypeEncodingMaps} (xs ys : List ℕ) → MapsGrow a b → AreNew r own a xs → ((n : ℕ) → Contains xs n → IsKnown b n)
    → ((n : ℕ) (kind : TypeDefKind) → Contains xs n → unnamed_kind r own n ≡ Some kind → (i : ℕ) × HasKind b kind i) → AreNew r own b ys → AreNew r own a (xs ++ ys)
new-both {r} {own} {a} {b} xs ys g p known kinds q = record {
  apart = pairs-both (λ x y. share_declarations r own x y ≡ false) xs ys p.apart q.apart
      (λ x y c d. known-apart r own b x y (known x c) (λ k e. kinds x k c e) (q.unknown y d) (λ k e. q.kinds y k d e));
  unknown = λ n c. elim (Contains-append_cases xs ys n c) [ inl x ↦ p.unknown n x | inr x ↦ (λ k. q.unknown n x (known-grow a b n g k)) ];
  kinds = λ n k c e. elim (Contains-append_cases xs ys n c) [ inl x ↦ p.kinds n k x e | inr x ↦ kind-before a b k g (q.kinds n k x e) ];
}

new-none : (r : Resolve) (own : Option InterfaceId) (m : TypeEncodingMaps) → AreNew r own m []
new-none r own m = record { apart = λ i j d lt le. absurd (omega (arith, le)); unknown = λ n c. none-in n c; kinds = λ n k c. none-in n c }

new-one : (r : Resolve) (own : Option InterfaceId) (m : TypeEncodingMaps) (n : ℕ) → (IsKnown m n → ⊥) → LacksItsKind r own m n → AreNew r own m (n ∷ [])
new-one r own m n unknown kinds = record {
  apart = λ i j d lt le. absurd (omega (arith, lt, le));
  unknown = λ k c h. unknown (subst (IsKnown m) (sym (one-contained n k c)) h);
  kinds = λ k kind c e. kinds kind (ap (unnamed_kind r own) (one-contained n k c) ∙ e);
}

-- ---- what they take

one-counts : (r : Resolve) (own : Option InterfaceId) (n : ℕ) → numbers_count r own (n ∷ []) ≡ number_count r own n
one-counts r own n = let e = sum_by-cons (number_count r own) n [] in omega (arith, e)

pub counts-few : (r : Resolve) (own : Option InterfaceId) (xs : List ℕ) → numbers_count r own xs ≤ 2 * length xs
counts-few r own [] = omega arith
counts-few r own (x ∷ xs) = search (std_rules, sum_by-cons (number_count r own) x xs, counts-few r own xs)

pub counts-one : (r : Resolve) (own : Option InterfaceId) (n : ℕ) → 1 ≤ number_count r own n
counts-one r own n = search std_rules

-- a type under a name of this place: its export, and its definition where it has one of its own
pub counts-named : (r : Resolve) (own : Option InterfaceId) (n : ℕ) (b : Bool) → has_own_definition r own n ≡ b → number_count r own n ≡ cond {A = ℕ} b 1 0 + 1
counts-named r own n b e = search std_rules

unnamed-at : (r : Resolve) (own : Option InterfaceId) (n : ℕ) (d : TypeDef) → type_at r n ≡ Some d
    → unnamed_kind r own n ≡ cond (is_none d.name && is_none (foreign_owner own d.owner)) (Some d.kind) None
unnamed-at r own n d at = ap (option_and_then (λ (def : TypeDef). cond (is_none def.name && is_none (foreign_owner own def.owner)) (Some def.kind) None)) at

-- a type with a name, or of another interface, has no kind that is looked for
pub named-unkind : (r : Resolve) (own : Option InterfaceId) (m : TypeEncodingMaps) (n : ℕ) (d : TypeDef) (name : String Global) → type_at r n ≡ Some d → d.name ≡ Some name
    → unnamed_kind r own n ≡ None
named-unkind r own m n d name at is = unnamed-at r own n d at ∙ ap (λ o. cond {A = Option TypeDefKind} (is_none o && is_none (foreign_owner own d.owner)) (Some d.kind) None) is

pub foreign-unkind : (r : Resolve) (own : Option InterfaceId) (m : TypeEncodingMaps) (n : ℕ) (d : TypeDef) (i : InterfaceId) → type_at r n ≡ Some d → foreign_owner own d.owner ≡ Some i
    → unnamed_kind r own n ≡ None
foreign-unkind r own m n d i at f = search std_rules

pub none-new : (m : TypeEncodingMaps) (o : Option TypeDefKind) → o ≡ None → (kind : TypeDefKind) → o ≡ Some kind → IsNewKind m kind
none-new m o e kind q = let same : ◌≡◌ {A = Option TypeDefKind} None (Some kind) = sym e ∙ q in absurd (let z : ⊥ = cc in z)

pub none-has : (m : TypeEncodingMaps) (o : Option TypeDefKind) → o ≡ None → (kind : TypeDefKind) → o ≡ Some kind → (i : ℕ) × HasKind m kind i
none-has m o e kind q = let same : ◌≡◌ {A = Option TypeDefKind} None (Some kind) = sym e ∙ q in absurd (let z : ⊥ = cc in z)

pub own-kind : (r : Resolve) (own : Option InterfaceId) (n : ℕ) (d : TypeDef) → type_at r n ≡ Some d → d.name ≡ None → foreign_owner own d.owner ≡ None → unnamed_kind r own n ≡ Some d.kind
own-kind r own n d at is f = unnamed-at r own n d at ∙ (λ i. cond {A = Option TypeDefKind} (is_none (is i) && is_none (f i)) (Some d.kind) None)

-- an unnamed kind that the maps lacked
pub new-kind : (m : TypeEncodingMaps) (kind : TypeDefKind) (o : Option TypeDefKind) → o ≡ Some kind → is_named_kind kind ≡ false → LacksKind m kind → (k : TypeDefKind) → o ≡ Some k → IsNewKind m k
new-kind m kind o is unnamed lacks k e = subst (IsNewKind m) (some-same kind k (sym is ∙ e)) (record { unnamed = unnamed; lacks = lacks })

-- ---- what is held

pub holds-none : (r : Resolve) (own : Option InterfaceId) (m : TypeEncodingMaps) (h : ℕ) → HoldsFor r own m m h h 0
holds-none r own m h = record { numbers = []; new = new-none r own m; known = λ n c. none-in n c; kinds = λ n k c. none-in n c; few = omega arith; held = omega arith }

pub holds-then : {r : Resolve} {own own' : Option InterfaceId} {a b c : TypeEncodingMaps} {h h' h'' k l : ℕ} → own' ≡ own → MapsGrow a b → MapsGrow b c → HoldsFor r own a b h h' k
    → HoldsFor r own' b c h' h'' l → HoldsFor r own a c h h'' (k + l)
holds-then {r} {own} {own'} {a} {b} {c} {h} {h'} {h''} {k} {l} e g g' p q' =
    let q : HoldsFor r own b c h' h'' l = subst (λ (o : Option InterfaceId). HoldsFor r o b c h' h'' l) e q' in
    record {
      numbers = p.numbers ++ q.numbers;
      new = new-both p.numbers q.numbers g p.new p.known p.kinds q.new;
      known = λ n d. elim (Contains-append_cases p.numbers q.numbers n d) [ inl x ↦ known-grow b c n g' (p.known n x) | inr x ↦ q.known n x ];
      kinds = λ n kind d f. elim (Contains-append_cases p.numbers q.numbers n d) [ inl x ↦ (let y = p.kinds n kind x f in (y.0, g'.keeps (by_kind kind) y.0 y.1)) | inr x ↦ q.kinds n kind x f ];
      few = (let x = p.few in let y = q.few in let z = length-append p.numbers q.numbers in omega (arith, x, y, z));
      held = (let x = p.held in let y = q.held in let z = sum_by-append (number_count r own) p.numbers q.numbers in omega (arith, x, y, z));
    }

-- the maps stay
pub holds-same : {r : Resolve} {own : Option InterfaceId} {a b c : TypeEncodingMaps} {h h' h'' : ℕ} (k n : ℕ) → c ≡ b → h'' ≤ h' + n → HoldsFor r own a b h h' k → HoldsFor r own a c h h'' (k + n)
holds-same {r} {own} {a} {b} {c} {h} {h'} {h''} k n e l p = subst (λ (m : TypeEncodingMaps). HoldsFor r own a m h h'' (k + n)) (sym e)
    (record { numbers = p.numbers; new = p.new; known = p.known; kinds = p.kinds; few = p.few; held = (let x = p.held in omega (arith, l, x)) })

-- one key of a function more, for which one more is held
pub holds-key : {r : Resolve} {own : Option InterfaceId} {a b c : TypeEncodingMaps} {h h' h'' : ℕ} → MapsGrow b c → c.id_to_index.entries ≡ b.id_to_index.entries
    → length c.func_type_map.entries ≡ length b.func_type_map.entries + 1 → h'' ≤ h' + 1 → HoldsFor r own a b h h' 0 → HoldsFor r own a c h h'' 0
holds-key {r} {own} {a} {b} {c} g e k l p = record {
  numbers = p.numbers;
  new = p.new;
  known = λ n d. known-grow b c n g (p.known n d);
  kinds = λ n kind d f. let y = p.kinds n kind d f in (y.0, g.keeps (by_kind kind) y.0 y.1);
  few = (let x = p.few in let y : length c.id_to_index.entries ≡ length b.id_to_index.entries = ap length e in omega (arith, x, y));
  held = (let x = p.held in omega (arith, x, k, l));
}

-- one number more, for which nothing more is held: its kind was known
pub holds-shared : {r : Resolve} {own : Option InterfaceId} {a b : TypeEncodingMaps} {h h' : ℕ} → length a.id_to_index.entries ≤ length b.id_to_index.entries
    → b.func_type_map.entries ≡ a.func_type_map.entries → h' ≤ h → HoldsFor r own a b h h' 0
holds-shared {r} {own} {a} {b} {h} {h'} few keys l = record {
  numbers = [];
  new = new-none r own a;
  known = λ n c. none-in n c;
  kinds = λ n k c. none-in n c;
  few = omega (arith, few);
  held = (let x : length b.func_type_map.entries ≡ length a.func_type_map.entries = ap length keys in omega (arith, l, x));
}

-- one number more, for which what it takes is held
pub holds-number : {r : Resolve} {own : Option InterfaceId} {a b : TypeEncodingMaps} {h h' : ℕ} (learnt : List (ℕ × ℕ)) (n : ℕ) → IsPermutation (a.id_to_index.entries ++ learnt) b.id_to_index.entries
    → b.func_type_map.entries ≡ a.func_type_map.entries → IsKnown b n → (IsKnown a n → ⊥) → ((kind : TypeDefKind) → unnamed_kind r own n ≡ Some kind → IsNewKind a kind)
    → ((kind : TypeDefKind) → unnamed_kind r own n ≡ Some kind → (i : ℕ) × HasKind b kind i) → h' ≤ h + number_count r own n → HoldsFor r own a b h h' 0
holds-number {r} {own} {a} {b} {h} {h'} learnt n e keys known unknown new has l = record {
  numbers = n ∷ [];
  new = new-one r own a n unknown new;
  known = λ k c. subst (IsKnown b) (one-contained n k c) known;
  kinds = λ k kind c f. has kind (ap (unnamed_kind r own) (one-contained n k c) ∙ f);
  few = more learnt e;
  held = (let x : length b.func_type_map.entries ≡ length a.func_type_map.entries = ap length keys in let y = one-counts r own n in omega (arith, l, x, y));
}
  where
    more : (xs : List (ℕ × ℕ)) → IsPermutation (a.id_to_index.entries ++ xs) b.id_to_index.entries → length a.id_to_index.entries + 1 ≤ length b.id_to_index.entries
    more [] p = absurd (unknown (known.0, (rw append-nil at (Contains-permutation _ _ (n, known.0) (IsPermutation-sym _ _ p) known.1))))
    more (x ∷ xs) p = let s = length-append a.id_to_index.entries (x ∷ xs) in let t = length_permutation _ _ p in omega (arith, s, t)

pub no-fewer : (a b learnt : List (ℕ × ℕ)) → IsPermutation (a ++ learnt) b → length a ≤ length b
no-fewer a b learnt p = let s = length-append a learnt in let t = length_permutation _ _ p in omega (arith, s, t)

-- an unnamed number more, whose kind was known, or for which one more is held
pub holds-unnamed : {r : Resolve} {own : Option InterfaceId} {a b : TypeEncodingMaps} {h h' : ℕ} {kind : TypeDefKind} (learnt : List (ℕ × ℕ)) (n : ℕ)
    → IsPermutation (a.id_to_index.entries ++ learnt) b.id_to_index.entries → b.func_type_map.entries ≡ a.func_type_map.entries → IsKnown b n → (IsKnown a n → ⊥) → unnamed_kind r own n ≡ Some kind
    → is_named_kind kind ≡ false → (i : ℕ) × HasKind b kind i → (h' ≤ h + 0) ⊎ (LacksKind a kind × (h' ≤ h + 1)) → HoldsFor r own a b h h' 0
holds-unnamed {r} {own} {a} {b} learnt n e keys known unknown is unnamed has (inl l) = holds-shared (no-fewer a.id_to_index.entries b.id_to_index.entries learnt e) keys (omega (arith, l))
holds-unnamed {r} {own} {a} {b} {h} {h'} {kind} learnt n e keys known unknown is unnamed has (inr (lacks, l)) =
    holds-number learnt n e keys known unknown (new-kind a kind (unnamed_kind r own n) is unnamed lacks)
    (λ k f. subst (λ (z : TypeDefKind). (i : ℕ) × HasKind b z i) (some-same kind k (sym is ∙ f)) has) (let one = counts-one r own n in omega (arith, l, one))

pub holds-most : {r : Resolve} {own : Option InterfaceId} {a b : TypeEncodingMaps} {h h' k n : ℕ} → k ≤ n → HoldsFor r own a b h h' k → HoldsFor r own a b h h' n
holds-most l p = record { numbers = p.numbers; new = p.new; known = p.known; kinds = p.kinds; few = p.few; held = (let x = p.held in omega (arith, l, x)) }

-- no more than two for each number that is known now and wasn't
pub holds-few : {r : Resolve} {own : Option InterfaceId} {a b : TypeEncodingMaps} {h h' k : ℕ} (j : ℕ) → length b.func_type_map.entries ≤ length a.func_type_map.entries + j → HoldsFor r own a b h h' k
    → h' + 2 * length a.id_to_index.entries ≤ h + (2 * length b.id_to_index.entries + (k + j))
holds-few {r} {own} j l p = let x = p.held in let y = p.few in let z = counts-few r own p.numbers in omega (arith, l, x, y, z)

pub on-pair : {A E : Type 0} (x : Result A E) (P Q : Type 0) → OnOk x P → OnOk x Q → OnOk x (P × Q)
on-pair x y z p q = search std_rules

-- ---- what is reached

pub reaches-then : (r : Resolve) (own : Option InterfaceId) (t : ValueType) (n : ℕ) → Reaches r own t n → (k : ℕ) → Reaches r own (ty.Id (record { 0 = n })) k → Reaches r own t k
reaches-then r own _ _ (itself id) k h = h
reaches-then r own _ _ (through id def t n at f c p) k h = through id def t k at f c (reaches-then r own t n p k h)

pub reached-left : {r : Resolve} {own : Option InterfaceId} (xs ys : List ValueType) (n : ℕ) → ReachedFrom r own xs n → ReachedFrom r own (xs ++ ys) n
reached-left xs ys n x = (x.0, Contains-append_left xs ys x.0 x.1, x.2)

pub reached-right : {r : Resolve} {own : Option InterfaceId} (xs ys : List ValueType) (n : ℕ) → ReachedFrom r own ys n → ReachedFrom r own (xs ++ ys) n
reached-right xs ys n x = (x.0, Contains-append_right xs ys x.0 x.1, x.2)

pub only-more : {P Q : ℕ → Type 0} {m m' : TypeEncodingMaps} → ((n : ℕ) → P n → Q n) → LearnsOnly P m m' → LearnsOnly Q m m'
only-more f l = record { each = λ id i c. elim (l.each id i c) [ inl q ↦ inl q | inr p ↦ inr (f id p) ] }

pub only-reached : (r : Resolve) (own : Option InterfaceId) (ts : List ValueType) {m m' : TypeEncodingMaps} → LearnsOnly (MetFrom r own m ts) m m' → LearnsOnly (ReachedFrom r own ts) m m'
only-reached r own ts {m} l = only-more (λ n a. (a.0, a.1, meets-reaches r own m a.0 n a.2)) l

-- what stands in the beginning of a list
pub map-taken : {X Y : Type 0} (f : X → Y) (xs : List X) (i : ℕ) (y : Y) → Contains (map f (take i xs)) y → Contains (map f xs) y
map-taken f xs i y c = subst (λ zs. Contains zs y) (sym (map-append f (take i xs) (drop i xs)) ∙ ap (map f) (take-append-drop i xs)) (Contains-append_left _ _ y c)

pub flat-taken : {X Y Z : Type 0} (f : Y → List Z) (g : X → Y) (xs : List X) (i : ℕ) (z : Z) → Contains (flat_map f (map g (take i xs))) z → Contains (flat_map f (map g xs)) z
flat-taken f g xs i z c = subst (λ zs. Contains zs z) (sym (flat_map-append f (map g (take i xs)) (map g (drop i xs)))
    ∙ ap (flat_map f) (sym (map-append g (take i xs) (drop i xs)) ∙ ap (map g) (take-append-drop i xs))) (Contains-append_left _ _ z c)

-- what stands in an order is reached
pub learns-reached : (r : Resolve) (own : Option InterfaceId) (m m' : TypeEncodingMaps) (ts : List ValueType) (items : List ℕ) (k : ℕ) → IsOrderOf r own m ts items
    → LearnsOnly (λ n. Contains (take k items) n) m m' → LearnsOnly (ReachedFrom r own ts) m m'
learns-reached r own m m' ts items k o l = only-more (λ n c. let a = o.added n (subst (λ xs. Contains xs n) (take-append-drop k items) (Contains-append_left (take k items) (drop k items) n c)) in
    (a.0, a.1, meets-reaches r own m a.0 n a.2)) l

-- ---- what has no room

lacks-more : {r : Resolve} {own : Option InterfaceId} {N : Refusals} {ns ns' : List ℕ} {qs qs' : List Request} → ((n : ℕ) → Contains ns n → Contains ns' n)
    → ((q : Request) → Contains qs q → Contains qs' q) → LacksOne r own N ns qs → LacksOne r own N ns' qs'
lacks-more f g (a_type n def c at part) = a_type n def (f n c) at part
lacks-more f g (a_request q c l) = a_request q (g q c) l

-- the first number
pub lacks-number : (r : Resolve) (own : Option InterfaceId) (id : TypeId) (def : TypeDef) (m : TypeEncodingMaps) (h h' : ℕ) (N : Refusals) → type_at r id.0 ≡ Some def → (IsKnown m id.0 → ⊥)
    → ((kind : TypeDefKind) → unnamed_kind r own id.0 ≡ Some kind → IsNewKind m kind) → h' < h + number_count r own id.0 → LacksPart r own N id.0 def → FindsNoRoom r own (ty.Id id ∷ []) [] 0 m h h' N
lacks-number r own id def m h h' N at unknown new l part = record {
  numbers = id.0 ∷ [];
  new = new-one r own m id.0 unknown new;
  met = λ n c. (ty.Id id, contains-one (ty.Id id), subst (Reaches r own (ty.Id id)) (one-contained id.0 n c) (itself id));
  held = (let y = one-counts r own id.0 in omega (arith, l, y));
  lacks = a_type id.0 def (contains-one id.0) at part;
}

-- one request
pub lacks-request : (r : Resolve) (own : Option InterfaceId) (ts : List ValueType) (q : Request) (m : TypeEncodingMaps) (h h' : ℕ) (N : Refusals) → h' ≤ h → N q
    → FindsNoRoom r own ts (q ∷ []) 1 m h h' N
lacks-request r own ts q m h h' N l n = record { numbers = []; new = new-none r own m; met = λ n c. none-in n c; held = omega (arith, l); lacks = a_request q (contains-one q) n }

-- the same among more, by another measure of what is held
pub room-more : {r : Resolve} {own own' : Option InterfaceId} {ts ts' : List ValueType} {qs qs' : List Request} {k k' : ℕ} {m : TypeEncodingMaps} {h x y : ℕ} {N : Refusals} → own' ≡ own
    → ((n : ℕ) → ReachedFrom r own ts' n → ReachedFrom r own ts n) → ((q : Request) → Contains qs' q → Contains qs q) → y + k' ≤ x + k → FindsNoRoom r own' ts' qs' k' m h x N
    → FindsNoRoom r own ts qs k m h y N
room-more {r} {own} {own'} {ts} {ts'} {qs} {qs'} {k} {k'} {m} {h} {x} {y} {N} e reach among count p' =
    let p : FindsNoRoom r own ts' qs' k' m h x N = subst (λ (o : Option InterfaceId). FindsNoRoom r o ts' qs' k' m h x N) e p' in
    record { numbers = p.numbers; new = p.new; met = λ n c. reach n (p.met n c); held = (let l = p.held in omega (arith, l, count)); lacks = lacks-more (λ n c. c) among p.lacks }

-- after calls that have learnt what is met from the same types
pub room-after : {r : Resolve} {own own' : Option InterfaceId} {ts ts' : List ValueType} {qs qs' : List Request} {a b : TypeEncodingMaps} {h h' x y j k k' : ℕ} {N : Refusals} → own' ≡ own
    → MapsGrow a b → HoldsFor r own a b h h' j → LearnsOnly (ReachedFrom r own ts) a b → ((n : ℕ) → ReachedFrom r own ts' n → ReachedFrom r own ts n) → ((q : Request) → Contains qs' q → Contains qs q)
    → y + (length b.func_type_map.entries + (j + k')) ≤ x + (length a.func_type_map.entries + k) → FindsNoRoom r own' ts' qs' k' b h' x N → FindsNoRoom r own ts qs k a h y N
room-after {r} {own} {own'} {ts} {ts'} {qs} {qs'} {a} {b} {h} {h'} {x} {y} {j} {k} {k'} {N} e g holds only reach among count p' =
    let p : FindsNoRoom r own ts' qs' k' b h' x N = subst (λ (o : Option InterfaceId). FindsNoRoom r o ts' qs' k' b h' x N) e p' in
    record {
      numbers = holds.numbers ++ p.numbers;
      new = new-both holds.numbers p.numbers g holds.new holds.known holds.kinds p.new;
      met = λ n c. elim (Contains-append_cases holds.numbers p.numbers n c) [
        | inl d ↦ elim (only.each n (holds.known n d).0 (holds.known n d).1) [ inl old ↦ absurd (holds.new.unknown n d ((holds.known n d).0, old)) | inr met ↦ met ]
        | inr d ↦ reach n (p.met n d)
      ];
      held = (let u = holds.held in let v = p.held in let z = sum_by-append (number_count r own) holds.numbers p.numbers in omega (arith, u, v, z, count));
      lacks = lacks-more (λ n c. Contains-append_right holds.numbers p.numbers n c) among p.lacks;
    }
