-- Tables of the names of types, by the numbers of the instances that show them.
use Rattle.std.specs.Prelude.{◌≡◌, ◌⊎◌, ℕ, List, Option, Some, None, slice_get, unwrap_or}
use Rattle.std.specs.{Borrow.Bor, BTreeMap.BTreeMap, BTreeMap.get, BTreeMap.get_by, Cmp.Lexicographic.slice_cmp, Ordering.nat_cmp}
use Rattle.wit_model.specs.Text.{Text}
use Rattle.comp_bytes.specs.Reading.{◌>>=◌}
use Rattle.comp_meaning.specs.Follow.{provided}
use Rattle.read_follow.specs.declared.{scopes.Instance.Instance, slots.Slot.Slot, views.ShownType.ShownType}
use Rattle.read_follow.specs.{Places.has_path, Scopes.find_slot}

-- each name has the slot of the first type under it, if there is one
abbrev pub AreSlotsOf : BTreeMap (Bor Text) Slot → List ShownType → Type 0
AreSlotsOf slots ts = (q : Text) → get_by (λ k. slice_cmp nat_cmp q k.now) slots ≡ find_slot q ts

-- the table of this number, if there is one, is that of the types
abbrev pub IsTableOf : BTreeMap ℕ (BTreeMap (Bor Text) Slot) → ℕ → List ShownType → Type 0
IsTableOf names m ts = (slots : BTreeMap (Bor Text) Slot) → get nat_cmp names m ≡ Some slots → AreSlotsOf slots ts

-- no tables but these and one of the types, under this number
abbrev pub AddsTable : BTreeMap ℕ (BTreeMap (Bor Text) Slot) → ℕ → List ShownType → BTreeMap ℕ (BTreeMap (Bor Text) Slot) → Type 0
AddsTable old m ts new = (n : ℕ) (slots : BTreeMap (Bor Text) Slot) → get nat_cmp new n ≡ Some slots → (get nat_cmp old n ≡ Some slots)
    ⊎ ((n ≡ m) × AreSlotsOf slots ts)

-- the instance of this number shows the types of the table
pub record IsTableIn (is : List Instance) (n : ℕ) (slots : BTreeMap (Bor Text) Slot) : Type 0 where
  pub instance : Instance
  pub at : slice_get is n ≡ Some instance
  pub shown : AreSlotsOf slots instance.view.types.items

-- each table is that of an instance
abbrev pub AreNamesOf : BTreeMap ℕ (BTreeMap (Bor Text) Slot) → List Instance → Type 0
AreNamesOf names is = (n : ℕ) (slots : BTreeMap (Bor Text) Slot) → get nat_cmp names n ≡ Some slots → IsTableIn is n slots

-- the slot that was found, if its place has a path
abbrev pub marked_slot : List (Option Text) → ℕ → Option Slot → Option Slot
marked_slot paths place found = found >>= λ s. provided (has_path (unwrap_or (slice_get paths place) None)) s
