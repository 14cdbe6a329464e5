-- What was added to a flat encoder, the latest first.
use Rattle.std.specs.Prelude.{ℕ, ◌+◌, ◌≡◌, true, cond, nat_eq, List, [], ◌∷◌, Option, Some, None, is_some}
use Rattle.encode_flat.specs.declared.marks.Mark.{Mark}
use Rattle.encode_flat.specs.declared.marks.Mark.TheVariants as mark

-- how many slots one addition takes: a further name of a slot takes none
abbrev pub slots_of : Mark → ℕ
slots_of (mark.Name i) = 0
slots_of _ = 1

-- how many slots there are
abbrev pub slot_count : List Mark → ℕ
slot_count [] = 0
slot_count (k ∷ ks) = slot_count ks + slots_of k

-- the slot of a type of another interface, if it has one
abbrev pub import_slot : List Mark → ℕ → Option ℕ
import_slot [] n = None
import_slot (mark.Import m ∷ ks) n = cond (nat_eq n m) (Some (slot_count ks)) (import_slot ks n)
import_slot (_ ∷ ks) n = import_slot ks n

-- how many additions there are
abbrev pub mark_count : List Mark → ℕ
mark_count [] = 0
mark_count (k ∷ ks) = mark_count ks + 1

-- where a type number had a slot nothing was added, and else one slot was, of it
pub record Imports (old : List Mark) (n : ℕ) (new : List Mark) : Type 0 where
  pub has : is_some (import_slot old n) ≡ true → new ≡ old
  pub lacks : import_slot old n ≡ None → new ≡ mark.Import n ∷ old
