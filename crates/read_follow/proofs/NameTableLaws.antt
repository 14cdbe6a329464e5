-- Tables of the names of types: how one is made, and that they stay those of their instances.
use Rattle.std.proofs.Common.{rules as std_rules, ◌≡◌, refl, sym, ap, ◌∙◌, subst, inl, inr, ◌⊎◌, ℕ, suc, zero, if◌then◌else◌, cond, List, [], ◌∷◌, ◌++◌, Option, Some, None, slice_get}
use Rattle.std.proofs.lemmas.Map.Text.{btree_map_updates_str}
use Rattle.std.specs.{Borrow.Bor, Map.lookup, Ordering.is_eq, Ordering.nat_cmp}
use Rattle.std.specs.{BTreeMap.BTreeMap, BTreeMap.get, BTreeMap.get_by, BTreeMap.Updates, Cmp.Lexicographic.slice_cmp}
use Rattle.wit_model.specs.Text.{Text, text_eq}
use Rattle.read_follow.specs.declared.{slots.Slot.Slot, views.ShownType.ShownType, scopes.Instance.Instance}
use Rattle.read_follow.specs.Defining.{Grows}
use Rattle.read_follow.specs.{NameTables.AddsTable, NameTables.AreNamesOf, NameTables.AreSlotsOf, NameTables.IsTableIn, NameTables.IsTableOf, Scopes.find_slot}

-- the slot of the first type of this name, or else the other
abbrev pub find_or : Text → List ShownType → Option Slot → Option Slot
find_or q [] other = other
find_or q (t ∷ ts) other = if text_eq q t.name.now then Some t.slot else find_or q ts other

-- the table is of the types behind these
abbrev pub IsTableBehind : List ShownType → List ShownType → BTreeMap (Bor Text) Slot → Type 0
IsTableBehind rest ts slots = (q : Text) → find_or q rest (get_by (λ k. slice_cmp nat_cmp q k.now) slots) ≡ find_slot q ts

pub none_behind : (q : Text) (ts : List ShownType) → find_or q ts None ≡ find_slot q ts
none_behind q [] = refl
none_behind q (t ∷ ts) = ap (λ o. cond (text_eq q t.name.now) (Some t.slot) o) (none_behind q ts)

found_last : (q : Text) (ts : List ShownType) (t : ShownType) (other : Option Slot) → find_or q (ts ++ t ∷ []) other ≡ find_or q ts (cond (text_eq q t.name.now) (Some t.slot) other)
found_last q [] t other = refl
found_last q (s ∷ ts) t other = ap (λ o. cond (text_eq q s.name.now) (Some s.slot) o) (found_last q ts t other)

-- one more type in the table
pub behind_on : (rest ts : List ShownType) (t : ShownType) (old new : BTreeMap (Bor Text) Slot) → IsTableBehind (rest ++ t ∷ []) ts old
    → Updates (λ x y. slice_cmp nat_cmp x.now y.now) old new t.name (Some t.slot) → IsTableBehind rest ts new
behind_on rest ts t old new h u q = search (std_rules, btree_map_updates_str t.name.now old new (Some t.slot) u q, found_last q rest t (get_by (λ k. slice_cmp nat_cmp q k.now) old))

-- ---- instances

-- the table under the number of an instance, if there is one, is that of its types
pub table_of : (names : BTreeMap ℕ (BTreeMap (Bor Text) Slot)) (is : List Instance) → AreNamesOf names is → (m : ℕ) (i : Instance) → slice_get is m ≡ Some i → IsTableOf names m i.view.types.items
table_of names is h m i at slots got = let t = h m slots got in let same : t.instance ≡ i = (let e : Some t.instance ≡ Some i = sym t.at ∙ at in cc) in
    subst (λ (x : Instance). AreSlotsOf slots x.view.types.items) same t.shown

-- a table of an instance may be made
pub names_stay : (names new : BTreeMap ℕ (BTreeMap (Bor Text) Slot)) (is : List Instance) → AreNamesOf names is → (m : ℕ) (i : Instance) → slice_get is m ≡ Some i
    → AddsTable names m i.view.types.items new → AreNamesOf new is
names_stay names new is h m i at adds n slots got = by (adds n slots got)
  where
    by : (get nat_cmp names n ≡ Some slots) ⊎ ((n ≡ m) × AreSlotsOf slots i.view.types.items) → IsTableIn is n slots
    by (inl old) = h n slots old
    by (inr x) = record { instance = i; at = ap (λ k. slice_get is k) x.0 ∙ at; shown = x.1 }

-- more instances leave the tables
pub names_grow : (names : BTreeMap ℕ (BTreeMap (Bor Text) Slot)) (old new : List Instance) → Grows old new → AreNamesOf names old → AreNamesOf names new
names_grow names old new g h n slots got =
    let t = h n slots got in
    record { instance = t.instance; at = ap (λ xs. slice_get xs n) g.is ∙ front old g.more n t.instance t.at; shown = t.shown }
  where
    front : (xs ys : List Instance) (k : ℕ) (x : Instance) → slice_get xs k ≡ Some x → slice_get (xs ++ ys) k ≡ Some x
    front [] ys k x e = absurd cc
    front (z ∷ xs) ys zero x e = e
    front (z ∷ xs) ys (suc k) x e = front xs ys k x e

-- one that is tables of nothing
pub no_names : (names : BTreeMap ℕ (BTreeMap (Bor Text) Slot)) (is : List Instance) → names.entries ≡ [] → AreNamesOf names is
no_names names is empty n slots got = absurd (let e : get nat_cmp names n ≡ None = ap (λ es. lookup (λ k. is_eq (nat_cmp n k)) es) empty in cc)
