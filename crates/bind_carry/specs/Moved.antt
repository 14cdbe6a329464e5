-- Things that are moved, one after the other, to the places that were made for them.
use Rattle.std.specs.Prelude.{◌≡◌, ◌+◌, ◌≤◌, ℕ, true, List, ◌++◌, length, drop, slice_set}
use Rattle.std.specs.List.{AllZip}
use Rattle.wit_model.specs.declared.model.{Interface.Interface, TypeDef.TypeDef}
use Rattle.bind_copy.specs.Copies.{are_names_below, AreFunctionsBelow, IsTypeUnder}
use Rattle.bind_carry.specs.Listed.{IsHomeBelow}
use Rattle.bind_carry.specs.declared.fate.Fate.{Fate}
use Rattle.bind_carry.specs.declared.fate.Fate.TheVariants as fate

-- What is moved stands in the first places, in its order, and behind it all is as it was.
pub record AreMoved {X Y : Type 0} (P : X → Y → Type 0) (xs : List X) (old new : List Y) : Type 0 where
  pub moved : List Y
  pub each : AllZip P xs moved
  pub placed : new ≡ moved ++ drop (length moved) old

-- So many are moved, and there is room for those that are left.
pub record AreMovedSoFar {X Y : Type 0} (P : X → Y → Type 0) (xs left : List X) (old now : List Y) (place : ℕ) : Type 0 where
  pub moved : List Y
  pub count : length moved ≡ place
  pub placed : now ≡ moved ++ drop place old
  pub so_far : (later : List Y) → AllZip P left later → AllZip P xs (moved ++ later)
  pub room : place + length left ≤ length old

-- The package of an interface, and the types that it names, are below so many.
pub record IsInterfaceBelow (packages types : ℕ) (i : Interface) : Type 0 where
  pub home : IsHomeBelow packages i.«package»
  pub names : are_names_below types i.types.entries ≡ true
  pub functions : AreFunctionsBelow types i.functions.entries

-- ---- types

-- A type has its number by its fate, and a place behind those that were made before if it is copied.
abbrev pub MeetsPlace : ℕ → Fate → List TypeDef → List TypeDef → ℕ → Type 0
MeetsPlace own fate.Left old new n = (n ≡ 0) × (new ≡ old)
MeetsPlace own (fate.Stands k) old new n = (n ≡ k) × (new ≡ old)
MeetsPlace own (fate.Copied home) old new n = (n ≡ own + length old) × (length new ≡ length old + 1)

-- A type has been moved to a place if it is copied by its fate: the places before and now, and the place of the next one.
abbrev pub IsMovedBy : List ℕ → Fate → TypeDef → ℕ → List TypeDef → List TypeDef → ℕ → Type 0
IsMovedBy numbers fate.Left def place old new next = (new ≡ old) × (next ≡ place)
IsMovedBy numbers (fate.Stands k) def place old new next = (new ≡ old) × (next ≡ place)
IsMovedBy numbers (fate.Copied home) def place old new next =
    (t : TypeDef) × IsTypeUnder numbers home def t × (new ≡ slice_set old place t) × (next ≡ place + 1)
