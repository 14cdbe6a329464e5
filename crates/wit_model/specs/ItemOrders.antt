-- Words of the check of the order of a world's items: the interfaces that have been shown, and how far functions reach.
use Rattle.std.specs.Prelude.{◌≡◌, ℕ, Bool, true, false, ◌&&◌, ◌||◌, not, ◌==◌, nat_eq, nat_le, List, [], ◌∷◌, slice_get}
use Rattle.std.specs.{List.list_all, List.list_any, Option.option_map_or, HashSet.HashSet, HashSet.contains}
use Rattle.wit_model.specs.declared.model.{Resolve.Resolve, WorldItem.WorldItem, Function.Function}
use Rattle.wit_model.specs.{Uses.has, Uses.direct_deps, Uses.interface_used_by, Uses.item_interface, Parts.function_numbers, Rules.is_id, Rules.used_interfaces}
use Rattle.wit_model.specs.Checks.{highest}

-- whether a set has a number
abbrev pub holds : {S : Type 0} → HashSet ℕ S → ℕ → Bool
holds s n = contains nat_eq s n

-- whether a type is an alias of a type of this interface, and that is another than its own
abbrev pub is_other_use : Resolve → ℕ → ℕ → ℕ → Bool
is_other_use r own n q = option_map_or (λ m. (m == q) && not (m == own)) (interface_used_by r n) false

-- whether the set under a number has a number
abbrev pub entry_holds : {S : Type 0} → List (HashSet ℕ S) → ℕ → ℕ → Bool
entry_holds table n q = option_map_or (λ s. holds s q) (slice_get table n) false

-- the table has the interfaces that each interface uses
abbrev pub IsUsesTable : {S : Type 0} → Resolve → List (HashSet ℕ S) → Type 0
IsUsesTable r table = (n q : ℕ) → entry_holds table n q ≡ has (direct_deps r n) q

-- whether all that the set under a number has passes a test
abbrev pub entry_passes : {S : Type 0} → List (HashSet ℕ S) → ℕ → (ℕ → Bool) → Bool
entry_passes table n test = option_map_or (λ s. list_all test s.keys) (slice_get table n) true

-- the interfaces that are shown, and that of one more item
abbrev pub shown_with : WorldItem → (ℕ → Bool) → ℕ → Bool
shown_with i shown n = is_id n (item_interface i) || shown n

-- the same of several items
abbrev pub shown_after : List WorldItem → (ℕ → Bool) → ℕ → Bool
shown_after items shown n = list_any (λ i. is_id n (item_interface i)) items || shown n

-- whether the interfaces that each item uses are shown, or stand before it
abbrev pub uses_are_shown : Resolve → (ℕ → Bool) → List WorldItem → Bool
uses_are_shown r shown [] = true
uses_are_shown r shown (i ∷ items) = list_all shown (used_interfaces r i) && uses_are_shown r (shown_with i shown) items

-- whether what a function uses has its place within these
abbrev pub reaches_within : (ℕ → ℕ) → ℕ → Function → Bool
reaches_within reach place f = nat_le (highest reach (function_numbers f)) place
