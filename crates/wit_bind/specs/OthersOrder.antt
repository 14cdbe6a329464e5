-- In which order what a merge brings is numbered: as in the other binding.
use Rattle.std.specs.Prelude.{◌≡◌, ℕ, ◌+◌, List, length, Some, option_and_then, option_map, slice_get}
use Rattle.std.specs.List.Sorted.{IsStrictlyIncreasing}
use Rattle.wit_model.specs.declared.model.{Resolve.Resolve, TypeDef.TypeDef}
use Rattle.wit_model.specs.{Lookup.interface_at, Lookup.path_of_world, Lookup.type_at, Lookup.world_at, Meant.interface_item}
use Rattle.wit_bind.specs.declared.bindgen.Bindgen.{Bindgen}
use Rattle.wit_bind.specs.Brings.{interface_notes, world_notes, IsTypeOf}
use Rattle.wit_bind.specs.Comes.{InlineIsGained, InterfaceComes, TypeComes, TypeIsGained, WorldComes}

-- ---- what is what in the other

-- The world of this number has the path and the notes of the other's world that is its source.
pub record IsWorldBrought (other new : Resolve) (source number : ℕ) : Type 0 where
  pub path : option_and_then (path_of_world new) (world_at new number) ≡ option_and_then (path_of_world other) (world_at other source)
  pub notes : option_map (world_notes new) (world_at new number) ≡ option_map (world_notes other) (world_at other source)

-- So has the interface of this number. An inline one, which has no path, means what its source means.
pub record IsInterfaceBrought (other new : Resolve) (source number : ℕ) : Type 0 where
  pub shown : interface_item new number ≡ interface_item other source
  pub notes : option_map (interface_notes new) (interface_at new number) ≡ option_map (interface_notes other) (interface_at other source)

-- the type of this number is the other's of the source's number
abbrev pub IsTypeBrought : Resolve → Resolve → ℕ → ℕ → Type 0
IsTypeBrought other new source number = (t : TypeDef) × (type_at new number ≡ Some t) × (is : IsTypeOf other new number t) × (is.source ≡ source)

-- ---- order

-- From one place up to another stand copies of things of the other that come, one of each. They stand in the order in which these stand in the other.
pub record StandInOrder (Comes : ℕ → Type 0) (IsCopy : ℕ → ℕ → Type 0) (start end : ℕ) : Type 0 where
  pub sources : List ℕ
  pub rising : IsStrictlyIncreasing sources
  pub come : (k n : ℕ) → slice_get sources k ≡ Some n → Comes n
  pub copied : (k n : ℕ) → slice_get sources k ≡ Some n → IsCopy n (start + k)
  pub count : end ≡ start + length sources

-- What comes by path or with a world stands so, and so does what the bound world gains, behind it.
pub record StandInTurn (First Second : ℕ → Type 0) (IsCopy : ℕ → ℕ → Type 0) (start end : ℕ) : Type 0 where
  pub between : ℕ
  pub first : StandInOrder First IsCopy start between
  pub second : StandInOrder Second IsCopy between end

-- Behind the own worlds, interfaces and types stand the new ones, in the order in which they stand in the other. It is known of each which one it is there.
pub record KeepsOthersOrder (own other new : Bindgen) : Type 0 where
  pub worlds : StandInOrder (WorldComes own.resolve other.resolve) (IsWorldBrought other.resolve new.resolve) (length own.resolve.worlds.items)
      (length new.resolve.worlds.items)
  pub interfaces : StandInTurn (InterfaceComes own.resolve other.resolve) (InlineIsGained own other) (IsInterfaceBrought other.resolve new.resolve)
      (length own.resolve.interfaces.items) (length new.resolve.interfaces.items)
  pub types : StandInTurn (TypeComes own.resolve other.resolve) (TypeIsGained own other) (IsTypeBrought other.resolve new.resolve)
      (length own.resolve.types.items) (length new.resolve.types.items)
