-- The sections of a module that carry worlds, one by one (wit-component README, "Custom Section Format").
use Rattle.std.specs.Prelude.{◌≡◌, ◌≢◌, ◌<◌, ◌≤◌, ◌+◌, ◌^◌, ◌++◌, ℕ, List, [], Option, Some, None, Vec, length, slice_get}
use Rattle.std.specs.{Int.to_le_bytes, Int.w32, List.AllByRecursion, List.flat_map}
use Rattle.std.specs.declared.alloc.Global.{Global}
use Rattle.wit_model.specs.declared.error.Error.{Error}
use Rattle.wit_component.specs.{Bound.CarryData, Modules.AreSections, Modules.Framed, Modules.IsFrontless, Modules.module_preamble}
use Rattle.wit_model.specs.declared.error.Error.TheVariants as errors

-- The bytes begin as a module with these sections, in which worlds are carried by these data; and this is what is left behind them.
pub record BeginsWith (bytes : List ℕ) (data_ : List (List ℕ)) (left : List ℕ) : Type 0 where
  pub sections : List Framed
  pub front : List ℕ
  pub parts : bytes ≡ module_preamble ++ (front ++ left)
  pub are : AreSections sections front
  pub carry : CarryData sections data_

-- The data of that number, whatever stands behind their section; or the module has fewer such sections, to its end.
abbrev pub HasNumber : List ℕ → ℕ → Option (Vec ℕ Global) → Type 0
HasNumber bytes n None = (data_ : List (List ℕ)) × BeginsWith bytes data_ [] × (length data_ ≤ n)
HasNumber bytes n (Some found) = (data_ : List (List ℕ)) × (left : List ℕ) × BeginsWith bytes data_ left × (slice_get data_ n ≡ Some found.items)

-- The bytes are no module; or bytes are left that begin no section, at this offset, and in front of them are no more such sections than that number; or
-- memory ran out.
abbrev pub RefusesWalk : List ℕ → ℕ → Error → Type 0
RefusesWalk bytes n errors.NotAModule = (rest : List ℕ) → bytes ≡ module_preamble ++ rest → ⊥
RefusesWalk bytes n (errors.BadModule offset) = (data_ : List (List ℕ)) × (left : List ℕ) × BeginsWith bytes data_ left × (length data_ ≤ n) × (left ≢ [])
    × IsFrontless left × (offset + length left ≡ length bytes)
RefusesWalk bytes n errors.Memory = Unit {0}
RefusesWalk bytes n _ = ⊥

-- data behind its length in four bytes, the lowest first
abbrev pub counted : List ℕ → List ℕ
counted d = to_le_bytes w32 (length d) ++ d

-- The bytes begin as a module, and this is left behind its sections. The data of those that carry worlds, which are the sections of the numbers from 0 on,
-- stand in that text in order, each behind its length, which fits in four bytes.
pub record ListsData (bytes left text : List ℕ) : Type 0 where
  pub data_ : List (List ℕ)
  pub begins : BeginsWith bytes data_ left
  pub short : AllByRecursion (λ d. length d < 2 ^ 32) data_
  pub is : text ≡ flat_map counted data_

-- The section of some number is refused so.
abbrev pub RefusesSections : List ℕ → Error → Type 0
RefusesSections bytes e = (n : ℕ) × RefusesWalk bytes n e
