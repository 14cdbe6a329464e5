-- What bytes are.
use Rattle.std.specs.Prelude.{◌≡◌, ◌↔◌, ◌+◌, ℕ, Bool, true, false, if◌then◌else◌, IsTrue, List, Result, Ok, Err}
use Rattle.wit_model.specs.declared.error.Error.{Error}
use Rattle.wit_component.specs.{Binding.Binding, Meaning.PackageMeaning, Meaning.WorldPackage, Reached.OutgrowsLists, Reads.Reads, Reads.ReadsWorld}
use Rattle.wit_component.specs.Bound.{IsBound}
use Rattle.wit_model.specs.declared.error.Error.TheVariants as errors

-- a number where something holds
abbrev pub bit : Bool → ℕ → ℕ
bit holds n = if holds then n else 0

-- The bytes mean a package exactly where 1 is in the sum, one world exactly where 2 is, and are a module that binds something exactly where 4 is.
pub record AreKinds (bytes : List ℕ) (sum : ℕ) : Type 0 where
  pub package_ : Bool
  pub world : Bool
  pub module_ : Bool
  pub is : sum ≡ bit package_ 1 + (bit world 2 + bit module_ 4)
  pub reads : IsTrue package_ ↔ ((m : PackageMeaning) × Reads bytes m)
  pub reads_world : IsTrue world ↔ ((m : WorldPackage) × ReadsWorld bytes m)
  pub binds : IsTrue module_ ↔ ((c : Binding) × IsBound bytes c)

-- Memory ran out; or the bytes are of a module for which a list would get too long.
abbrev pub IsUnknown : List ℕ → Error → Type 0
IsUnknown bytes errors.Memory = Unit {0}
IsUnknown bytes errors.Size = OutgrowsLists bytes
IsUnknown bytes _ = ⊥

module _ {T : Type 0} where
  -- What a reading tells: it is there, or not, and the refusals that leave that open are passed on.
  abbrev pub TellsRead : Result T Error → Result Bool Error → Type 0
  TellsRead (Ok x) told = told ≡ Ok true
  TellsRead (Err errors.Memory) told = told ≡ Err errors.Memory
  TellsRead (Err errors.Size) told = told ≡ Err errors.Size
  TellsRead (Err _) told = told ≡ Ok false
