-- Maps that agree with slots, over what a call adds.
use Rattle.std.proofs.Common.{rules as std_rules, ◌≡◌, refl, sym, subst, ap, ◌∙◌, ℕ, true, false, List, ◌⊎◌, inl, inr, Result, OnOk, OnErr, Option, Some, None, nat_eq, [], ◌∷◌, ◌++◌, map, get_or}
use Rattle.std.proofs.lemmas.{Cmp.nat_eq_equiv, List.Elements.Contains-get_or, List.Quantifiers.all_pairs_push, Bool.eqb-true, Bool.false_from_ne_true}
use Rattle.std.specs.{Prelude.is_some, Prelude.IsSome, Prelude.IsPermutation, List.Contains, List.AllPairs, Borrow.Bor}
use Rattle.wit_model.specs.{Text.Text, Tree.TypeDeclaration, Rules.is_named_kind, Types.trees_of, Types.tree_of_declaration, Meaning.Signature}
use Rattle.wit_model.specs.declared.model.{Resolve.Resolve, TypeDefKind.TypeDefKind, TypeId.TypeId}
use Rattle.encode_types.specs.declared.{maps.TypeEncodingMaps.TypeEncodingMaps, key.FunctionKey.FunctionKey}
use Rattle.encode_types.specs.{Codes.kind_code, Codes.names_of, Codes.lists_of, Codes.IsKeyList, Codes.ListKey, Leaves.Leaves, Leaves.LeavesSlots, Slots.Pairs, Slots.Standing, Slots.tree, Slots.function, Slots.Keeps, View.View, View.Agrees, View.SameRest, Counts.SameUnits}
use Rattle.encode_types.specs.Maps.{Known, by_number, by_kind, by_key, by_unit_future, by_unit_stream, Holds, standing_of, IsOnce, IsKindList, IsSomeKeyList, MapsAgree, MapsGrow, IsKnown, LacksList, StandsAsKind, StandsAsKey, SameMaps, AddsNames, LearnsNumber, LearnsList, LearnsKeyList, LearnsOne}
use Rattle.encode_types.proofs.{Tables.kept-in, Tables.new-in, Tables.entry-more, Tables.pairs-permuted, Tables.key-grow, EqualLists.kinds-of-lists, EqualLists.keys-of-lists, EqualLists.key-shrink, KindLaws.same_tree, KindLaws.same-signature}

pub either : {A E : Type 0} (x : Result A E) (P Q : Type 0) → OnOk x P → OnErr x Q → P ⊎ Q
either x y z p q = search std_rules

pub on_ok : {A E : Type 0} (x : Result A E) (P Q : Type 0) → (P → Q) → OnOk x P → OnOk x Q
on_ok x y z f p = search std_rules

-- ---- maps with the same entries

-- the same entries, under names that may have been added
pub adds-holds : (m m' : TypeEncodingMaps) → AddsNames m m' → (k : Known) (i : ℕ) → Holds m k i → Holds m' k i
adds-holds m m' s (by_number n) i h = subst (λ (xs : List (ℕ × ℕ)). Contains xs (n, i)) (sym s.rest.numbers) h
adds-holds m m' s (by_kind k) i h = (h.0, subst (λ (xs : List (ListKey × ℕ)). Contains (map {B = List ℕ × ℕ} (λ e. (e.0.0.items, e.1)) xs) (kind_code k, i)) (sym s.rest.kinds) h.1)
adds-holds m m' s (by_key k) i h = search (std_rules, key-grow)
adds-holds m m' s by_unit_future i h = s.rest.unit_future_ ∙ h
adds-holds m m' s by_unit_stream i h = s.rest.unit_stream_ ∙ h

-- and back: a key that is found by more names was found before
pub adds-back : (m m' : TypeEncodingMaps) → IsOnce m → AddsNames m m' → (k : Known) (i : ℕ) → Holds m' k i → Holds m k i
adds-back m m' o s (by_number n) i h = subst (λ (xs : List (ℕ × ℕ)). Contains xs (n, i)) s.rest.numbers h
adds-back m m' o s (by_kind k) i h = (h.0, subst (λ (xs : List (ListKey × ℕ)). Contains (map {B = List ℕ × ℕ} (λ e. (e.0.0.items, e.1)) xs) (kind_code k, i)) s.rest.kinds h.1)
adds-back m m' o s (by_key k) i h =
    let c : Contains (lists_of m.func_type_map) (h.0, i) = subst (λ (xs : List (ListKey × ℕ)). Contains (map {B = List ℕ × ℕ} (λ e. (e.0.0.items, e.1)) xs) (h.0, i)) s.rest.keys h.2 in
    let other = o.key_lists h.0 i c in
    (h.0, key-shrink (names_of m.names) (names_of m'.names) (s.grow.numbered o.names_).table s.grow.kept k other.key h.0 h.1 other.is, c)
adds-back m m' o s by_unit_future i h = sym s.rest.unit_future_ ∙ h
adds-back m m' o s by_unit_stream i h = sym s.rest.unit_stream_ ∙ h

adds-once : (m m' : TypeEncodingMaps) → AddsNames m m' → IsOnce m → IsOnce m'
adds-once m m' s o = record {
  numbers = subst (λ (xs : List (ℕ × ℕ)). AllPairs (λ x y. nat_eq x.0 y.0 ≡ false) xs) (sym s.rest.numbers) o.numbers;
  kinds = subst (λ (xs : List (ListKey × ℕ)). AllPairs (λ x y. x.0 ≡ y.0 → ⊥) (map {B = List ℕ × ℕ} (λ e. (e.0.0.items, e.1)) xs)) (sym s.rest.kinds) o.kinds;
  keys = subst (λ (xs : List (ListKey × ℕ)). AllPairs (λ x y. x.0 ≡ y.0 → ⊥) (map {B = List ℕ × ℕ} (λ e. (e.0.0.items, e.1)) xs)) (sym s.rest.keys) o.keys;
  kind_lists = λ xs i c. o.kind_lists xs i (subst (λ (es : List (ListKey × ℕ)). Contains (map {B = List ℕ × ℕ} (λ e. (e.0.0.items, e.1)) es) (xs, i)) s.rest.kinds c);
  key_lists = λ xs i c.
      let other = o.key_lists xs i (subst (λ (es : List (ListKey × ℕ)). Contains (map {B = List ℕ × ℕ} (λ e. (e.0.0.items, e.1)) es) (xs, i)) s.rest.keys c) in
      record { key = other.key; is = key-grow (names_of m.names) (names_of m'.names) other.key xs s.grow other.is };
  names_ = s.grow.numbered o.names_;
}

pub same-adds : (m m' : TypeEncodingMaps) → SameMaps m m' → AddsNames m m'
same-adds m m' s = search std_rules

-- maps with the same entries and caches hold the same
module _ (m z : TypeEncodingMaps) (s : SameMaps m z) where
  same-holds : (k : Known) (i : ℕ) → Holds m k i → Holds z k i
  same-holds = adds-holds m z (same-adds m z s)

  same-held : (k : Known) (i : ℕ) → Holds z k i → Holds m k i
  same-held = adds-holds z m (same-adds z m (record {
    numbers = sym s.numbers;
    kinds = sym s.kinds;
    keys = sym s.keys;
    names_ = sym s.names_;
    unit_future_ = sym s.unit_future_;
    unit_stream_ = sym s.unit_stream_;
  }))

  same-once : IsOnce m → IsOnce z
  same-once = adds-once m z (same-adds m z s)

-- what a change of the maps leaves
pub record Changes (r : Resolve) (m m' : TypeEncodingMaps) (S : Pairs) : Type 0 where
  pub agree : MapsAgree r m' S
  pub grow : MapsGrow m m'

pub changes-names : (r : Resolve) (m m' : TypeEncodingMaps) (S : Pairs) → AddsNames m m' → MapsAgree r m S → Changes r m m' S
changes-names r m m' S s a = record { agree = record { says = λ k i h. a.says k i (adds-back m m' a.once s k i h); once = adds-once m m' s a.once }; grow = record { keeps = adds-holds m m' s } }

-- ---- one entry more

-- The maps know one thing more: what is held now was held before, or stands as the slot does.
pub record Learns (r : Resolve) (m m' : TypeEncodingMaps) (i : ℕ) (s : Standing) : Type 0 where
  pub grow : (k : Known) (j : ℕ) → Holds m k j → Holds m' k j
  pub only : IsOnce m → (k : Known) (j : ℕ) → Holds m' k j → Holds m k j ⊎ ((standing_of r k ≡ s) × (j ≡ i))
  pub once : IsOnce m → IsOnce m'

pub changes-learns : (r : Resolve) (m m' : TypeEncodingMaps) (S : Pairs) (i : ℕ) (s : Standing) → Learns r m m' i s → MapsAgree r m S → S i s → Changes r m m' S
changes-learns r m m' S i s l a h = search std_rules

numbers-apart : (x y : ℕ × ℕ) → nat_eq x.0 y.0 ≡ false → nat_eq y.0 x.0 ≡ false
numbers-apart x y e = nat_eq_equiv.symm y.0 x.0 ∙ e

lists-apart : (x y : List ℕ × ℕ) → (x.0 ≡ y.0 → ⊥) → y.0 ≡ x.0 → ⊥
lists-apart x y n e = n (sym e)

new-pairs : (xs ys : List (List ℕ × ℕ)) (zs : List ℕ) (i : ℕ) → IsPermutation (xs ++ (zs, i) ∷ []) ys → LacksList xs zs → AllPairs (λ x y. x.0 ≡ y.0 → ⊥) xs → AllPairs (λ x y. x.0 ≡ y.0 → ⊥) ys
new-pairs xs ys zs i p none h = pairs-permuted (λ (x y : List ℕ × ℕ). x.0 ≡ y.0 → ⊥) lists-apart _ ys p
    (all_pairs_push (λ x y. x.0 ≡ y.0 → ⊥) xs (zs, i) h (λ k d l e. none (get_or xs k d).1 (subst (λ zs. Contains xs (zs, (get_or xs k d).1)) e (Contains-get_or xs k d l))))

pub learns-number : (r : Resolve) (m m' : TypeEncodingMaps) (id : TypeId) (i : ℕ) → (IsKnown m id.0 → ⊥) → LearnsNumber m m' id i → Learns r m m' i (standing_of r (by_number id.0))
learns-number r m m' id i fresh l = record { grow = grow; only = λ o. only; once = once }
  where
    grow : (k : Known) (j : ℕ) → Holds m k j → Holds m' k j
    grow (by_number n) j h = kept-in m.id_to_index.entries m'.id_to_index.entries (id.0, i) l.more (n, j) h
    grow k j h = same-holds m (record m' { id_to_index = m.id_to_index }) l.rest k j h

    only : (k : Known) (j : ℕ) → Holds m' k j → Holds m k j ⊎ ((standing_of r k ≡ standing_of r (by_number id.0)) × (j ≡ i))
    only (by_number n) j h = elim (entry-more m.id_to_index.entries m'.id_to_index.entries id.0 i l.more n j h) [ inl q ↦ inl q | inr e ↦ inr (ap (λ (k : ℕ). standing_of r (by_number k)) e.0, e.1) ]
    only k j h = inl (same-held m (record m' { id_to_index = m.id_to_index }) l.rest k j h)

    apart : (e : ℕ × ℕ) → Contains m.id_to_index.entries e → nat_eq e.0 id.0 ≡ false
    apart e c = false_from_ne_true _ (λ q. fresh (e.1, subst (λ (n : ℕ). Contains m.id_to_index.entries (n, e.1)) (eqb-true e.0 id.0 q) c))

    once : IsOnce m → IsOnce m'
    once o =
        let z = same-once m (record m' { id_to_index = m.id_to_index }) l.rest o in
        let numbers = pairs-permuted (λ (x y : ℕ × ℕ). nat_eq x.0 y.0 ≡ false) numbers-apart _ m'.id_to_index.entries l.more
        (all_pairs_push (λ x y. nat_eq x.0 y.0 ≡ false) m.id_to_index.entries (id.0, i) o.numbers (λ k d lt. apart _ (Contains-get_or _ k d lt))) in
        record { numbers = numbers; kinds = z.kinds; keys = z.keys; kind_lists = z.kind_lists; key_lists = z.key_lists; names_ = z.names_ }

pub learns-kind : (r : Resolve) (m m' : TypeEncodingMaps) (kind : TypeDefKind) (xs : List ℕ) (i : ℕ) → is_named_kind kind ≡ false → xs ≡ kind_code kind → LacksList (lists_of m.def_to_index) xs
    → LearnsList m m' xs i → Learns r m m' i (standing_of r (by_kind kind))
learns-kind r m m' kind xs i unnamed is lacks l = record { grow = grow; only = λ o. only; once = once }
  where
    grow : (k : Known) (j : ℕ) → Holds m k j → Holds m' k j
    grow (by_kind k) j h = (h.0, kept-in (lists_of m.def_to_index) (lists_of m'.def_to_index) (xs, i) l.more (kind_code k, j) h.1)
    grow k j h = same-holds m (record m' { def_to_index = m.def_to_index }) l.rest k j h

    same : (k : TypeDefKind) → is_named_kind k ≡ false → kind_code k ≡ kind_code kind → standing_of r (by_kind k) ≡ standing_of r (by_kind kind)
    same k n e = ap (λ (d : TypeDeclaration). tree (tree_of_declaration d)) (same_tree (trees_of r) k kind n (kinds-of-lists k kind n unnamed e))

    only : (k : Known) (j : ℕ) → Holds m' k j → Holds m k j ⊎ ((standing_of r k ≡ standing_of r (by_kind kind)) × (j ≡ i))
    only (by_kind k) j h = elim (entry-more (lists_of m.def_to_index) (lists_of m'.def_to_index) xs i l.more (kind_code k) j h.1) [ inl q ↦ inl (h.0, q) | inr e ↦ inr (same k h.0 (e.0 ∙ is), e.1) ]
    only k j h = inl (same-held m (record m' { def_to_index = m.def_to_index }) l.rest k j h)

    once : IsOnce m → IsOnce m'
    once o =
        let z = same-once m (record m' { def_to_index = m.def_to_index }) l.rest o in
        let kinds = new-pairs (lists_of m.def_to_index) (lists_of m'.def_to_index) xs i l.more lacks o.kinds in
        let lists : (ys : List ℕ) (j : ℕ) → Contains (lists_of m'.def_to_index) (ys, j) → IsKindList ys =
        λ ys j c. elim (entry-more (lists_of m.def_to_index) (lists_of m'.def_to_index) xs i l.more ys j c) [
          | inl q ↦ o.kind_lists ys j q
          | inr e ↦ record { kind = kind; unnamed = unnamed; is = e.0 ∙ is }
        ] in
        record { numbers = z.numbers; kinds = kinds; keys = z.keys; kind_lists = lists; key_lists = z.key_lists; names_ = z.names_ }

pub learns-key : (r : Resolve) (m m' : TypeEncodingMaps) (key : FunctionKey) (xs : List ℕ) (i : ℕ) → IsKeyList (names_of m.names) key xs → LacksList (lists_of m.func_type_map) xs
    → LearnsKeyList m m' xs i → Learns r m m' i (standing_of r (by_key key))
learns-key r m m' key xs i is lacks l = record { grow = grow; only = only; once = once }
  where
    named : (k : FunctionKey) (ys : List ℕ) → IsKeyList (names_of m.names) k ys → IsKeyList (names_of m'.names) k ys
    named k ys h = subst (λ (ns : List (Bor Text × ℕ)). IsKeyList (map {B = Text × ℕ} (λ e. (e.0.now, e.1)) ns) k ys) (sym l.rest.names_) h

    grow : (k : Known) (j : ℕ) → Holds m k j → Holds m' k j
    grow (by_key k) j h = (h.0, named k h.0 h.1, kept-in (lists_of m.func_type_map) (lists_of m'.func_type_map) (xs, i) l.more (h.0, j) h.2)
    grow k j h = same-holds m (record m' { func_type_map = m.func_type_map }) l.rest k j h

    only : IsOnce m → (k : Known) (j : ℕ) → Holds m' k j → Holds m k j ⊎ ((standing_of r k ≡ standing_of r (by_key key)) × (j ≡ i))
    only o (by_key k) j h =
        let listed : IsKeyList (names_of m.names) k h.0 = subst (λ (ns : List (Bor Text × ℕ)). IsKeyList (map {B = Text × ℕ} (λ e. (e.0.now, e.1)) ns) k h.0) l.rest.names_ h.1 in
        elim (entry-more (lists_of m.func_type_map) (lists_of m'.func_type_map) xs i l.more h.0 j h.2) [
          | inl q ↦ inl (h.0, listed, q)
          | inr e ↦ inr (ap (λ (s : Signature). function s) (same-signature r k key (keys-of-lists (names_of m.names) k key h.0 xs o.names_.table listed is e.0)), e.1)
        ]
    only o k j h = inl (same-held m (record m' { func_type_map = m.func_type_map }) l.rest k j h)

    once : IsOnce m → IsOnce m'
    once o =
        let z = same-once m (record m' { func_type_map = m.func_type_map }) l.rest o in
        let keys = new-pairs (lists_of m.func_type_map) (lists_of m'.func_type_map) xs i l.more lacks o.keys in
        let lists : (ys : List ℕ) (j : ℕ) → Contains (lists_of m'.func_type_map) (ys, j) → IsSomeKeyList (names_of m'.names) ys =
        λ ys j c. elim (entry-more (lists_of m.func_type_map) (lists_of m'.func_type_map) xs i l.more ys j c) [
          | inl q ↦ z.key_lists ys j q
          | inr e ↦ record { key = key; is = rw e.0 (named key xs is) }
        ] in
        record { numbers = z.numbers; kinds = z.kinds; keys = keys; kind_lists = z.kind_lists; key_lists = lists; names_ = z.names_ }

pub learns-unit_future : (r : Resolve) (m m' : TypeEncodingMaps) (i : ℕ) → m.unit_future ≡ None → m' ≡ record m { unit_future = Some i } → Learns r m m' i (standing_of r by_unit_future)
learns-unit_future r m m' i none is = subst (λ (z : TypeEncodingMaps). Learns r m z i (standing_of r by_unit_future)) (sym is)
    (record { grow = grow; only = λ o. only; once = λ o. record { numbers = o.numbers; kinds = o.kinds; keys = o.keys; kind_lists = o.kind_lists; key_lists = o.key_lists; names_ = o.names_ } })
  where
    grow : (k : Known) (j : ℕ) → Holds m k j → Holds (record m { unit_future = Some i }) k j
    grow by_unit_future j h = absurd (let e = sym none ∙ h in let z : ⊥ = cc in z)
    grow k j h = h

    only : (k : Known) (j : ℕ) → Holds (record m { unit_future = Some i }) k j → Holds m k j ⊎ ((standing_of r k ≡ standing_of r by_unit_future) × (j ≡ i))
    only by_unit_future j h = inr (refl, (let e : i ≡ j = cc in sym e))
    only k j h = inl h

pub learns-unit_stream : (r : Resolve) (m m' : TypeEncodingMaps) (i : ℕ) → m.unit_stream ≡ None → m' ≡ record m { unit_stream = Some i } → Learns r m m' i (standing_of r by_unit_stream)
learns-unit_stream r m m' i none is = subst (λ (z : TypeEncodingMaps). Learns r m z i (standing_of r by_unit_stream)) (sym is)
    (record { grow = grow; only = λ o. only; once = λ o. record { numbers = o.numbers; kinds = o.kinds; keys = o.keys; kind_lists = o.kind_lists; key_lists = o.key_lists; names_ = o.names_ } })
  where
    grow : (k : Known) (j : ℕ) → Holds m k j → Holds (record m { unit_stream = Some i }) k j
    grow by_unit_stream j h = absurd (let e = sym none ∙ h in let z : ⊥ = cc in z)
    grow k j h = h

    only : (k : Known) (j : ℕ) → Holds (record m { unit_stream = Some i }) k j → Holds m k j ⊎ ((standing_of r k ≡ standing_of r by_unit_stream) × (j ≡ i))
    only by_unit_stream j h = inr (refl, (let e : i ≡ j = cc in sym e))
    only k j h = inl h

-- ---- a call that writes to the maps alone

pub changes-unit : (r : Resolve) (m m' : TypeEncodingMaps) (S S' : Pairs) (k : Known) (i : ℕ) → Keeps S S' → Learns r m m' i (standing_of r k) → MapsAgree r m S → S i (standing_of r k)
    → Changes r m m' S'
changes-unit r m m' S S' k i keeps l a s = changes-learns r m m' S' i _ l (record { says = λ k j h. keeps j (standing_of r k) (a.says k j h); once = a.once }) (keeps i (standing_of r k) s)

-- a call that fills one of the two caches
pub leaves-filled : (r : Resolve) (v v' : View) → SameRest v v' → Changes r v.maps v'.maps v'.stands → LeavesSlots r v v'
leaves-filled r v v' s c = search std_rules

pub leaves-changed : (r : Resolve) (v v' : View) → SameRest v v' → Changes r v.maps v'.maps v'.stands → SameUnits v.maps v'.maps → Leaves r v v'
leaves-changed r v v' s c u = search std_rules

-- one that adds names alone
pub leaves-listed : (r : Resolve) (v v' : View) → SameRest v v' → Agrees r v → AddsNames v.maps v'.maps → Leaves r v v'
leaves-listed r v v' s a l = leaves-changed r v v' s (changes-names r v.maps v'.maps v'.stands l (record { says = λ k j c. s.kept j (standing_of r k) (a.says k j c); once = a.once }))
    (record { future_ = l.rest.unit_future_; stream_ = l.rest.unit_stream_ })

-- one that adds an entry, or nothing
module _ {E : Type 0} (x : Result (Unit {0}) E) (r : Resolve) (v v' : View) (i : ℕ) (s : SameRest v v') (a : Agrees r v) where
  leaves-call : (z : Standing) → v.stands i z → OnOk x (Learns r v.maps v'.maps i z × SameUnits v.maps v'.maps) → OnErr x (SameMaps v.maps v'.maps) → Leaves r v v'
  leaves-call z h ok err = elim (either x _ _ ok err) [
    | inl l ↦ leaves-changed r v v' s (changes-learns r v.maps v'.maps v'.stands i z l.0 (record { says = λ k j c. s.kept j (standing_of r k) (a.says k j c); once = a.once }) (s.kept i z h)) l.1
    | inr l ↦ leaves-listed r v v' s a (same-adds v.maps v'.maps l)
  ]

  pub leaves-number : (id : TypeId) → (IsKnown v.maps id.0 → ⊥) → v.stands i (standing_of r (by_number id.0)) → OnOk x (LearnsNumber v.maps v'.maps id i) → OnErr x (SameMaps v.maps v'.maps)
      → Leaves r v v'
  leaves-number id fresh h ok err = leaves-call _ h (on_ok x _ _ (λ l. (learns-number r v.maps v'.maps id i fresh l, record { future_ = l.rest.unit_future_; stream_ = l.rest.unit_stream_ })) ok) err

  pub leaves-kind : (xs : List ℕ) → LacksList (lists_of v.maps.def_to_index) xs → StandsAsKind r v.stands xs i → OnOk x (LearnsList v.maps v'.maps xs i) → OnErr x (SameMaps v.maps v'.maps)
      → Leaves r v v'
  leaves-kind xs fresh h ok err = leaves-call _ h.stands
      (on_ok x _ _ (λ l. (learns-kind r v.maps v'.maps h.kind xs i h.unnamed h.is fresh l, record { future_ = l.rest.unit_future_; stream_ = l.rest.unit_stream_ })) ok) err

  pub leaves-key : (xs : List ℕ) → LacksList (lists_of v.maps.func_type_map) xs → StandsAsKey r (names_of v.maps.names) v.stands xs i → OnOk x (LearnsKeyList v.maps v'.maps xs i)
      → OnErr x (SameMaps v.maps v'.maps) → Leaves r v v'
  leaves-key xs fresh h ok err = leaves-call _ h.stands
      (on_ok x _ _ (λ l. (learns-key r v.maps v'.maps h.key xs i h.is fresh l, record { future_ = l.rest.unit_future_; stream_ = l.rest.unit_stream_ })) ok) err

pub known-learnt : (m m' : TypeEncodingMaps) (id : TypeId) (i : ℕ) → LearnsNumber m m' id i → IsKnown m' id.0
known-learnt m m' id i l = (i, new-in m.id_to_index.entries m'.id_to_index.entries (id.0, i) l.more)

pub known-grow : (m m' : TypeEncodingMaps) (n : ℕ) → MapsGrow m m' → IsKnown m n → IsKnown m' n
known-grow m m' n g k = (k.0, g.keeps (by_number n) k.0 k.1)

pub not-known : (o : Option ℕ) → is_some o ≡ false → IsSome o → ⊥
not-known o e h = let f : is_some o ≡ true = h in let z : ⊥ = cc in z

pub learnt-one : (m m₁ m' : TypeEncodingMaps) (id : TypeId) (i : ℕ) → m₁.id_to_index.entries ≡ m.id_to_index.entries → LearnsNumber m₁ m' id i → LearnsOne m m' id.0
learnt-one m m₁ m' id i e l = record {
  known = known-learnt m₁ m' id i l;
  only = record { each = λ n j c. elim (entry-more m₁.id_to_index.entries m'.id_to_index.entries id.0 i l.more n j c) [ inl q ↦ inl (rw e at q) | inr q ↦ inr q.0 ] };
}

-- maps that hold nothing agree with any slots
pub empty-agrees : (r : Resolve) (m : TypeEncodingMaps) (S : Pairs) → m.id_to_index.entries ≡ [] → m.def_to_index.entries ≡ [] → m.func_type_map.entries ≡ [] → m.names.entries ≡ []
    → m.unit_future ≡ None → m.unit_stream ≡ None → MapsAgree r m S
empty-agrees r m S ids kinds keys names future stream = search std_rules
