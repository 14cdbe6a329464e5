-- Which interfaces and worlds have no room in the component of a package, where every length is a number of 32 bits, that of the component too (Component Model
-- Binary.md,
-- "Component Definitions" and the numbers of "Core WebAssembly").
use Rattle.std.specs.Prelude.{ℕ, ◌≡◌, ◌<◌, ◌+◌, ◌⊎◌, Bool, List, [], ◌∷◌, ◌++◌, length, sum_by, Some}
use Rattle.std.specs.List.{Contains}
use Rattle.wit_model.specs.{Text.text_of, Names.PackageIdentity, Names.path_in, Lookup.world_at, Weight.interface_weight, Weight.world_weight}
use Rattle.wit_model.specs.declared.model.{Resolve.Resolve, World.World}
use Rattle.comp_bytes.specs.{Parts.Part, Writing.top_type_bytes, Writing.top_export_bytes}
use Rattle.encode_types.specs.Room.{limit}
use Rattle.wit_encode.specs.Packages.{HoldsInterfaces, HoldsMembers, ListedInterface, ListedWorld}

-- ---- how long parts are

-- the bytes of a part, and what its section takes at most: an id, a length and a count
abbrev pub part_extent : Part → ℕ
part_extent (Part.top_type t) = 11 + length (top_type_bytes t)
part_extent (Part.top_export e) = 11 + length (top_export_bytes e)
part_extent (Part.custom name contents) = 11 + (length name + length contents)

abbrev pub parts_extent : List Part → ℕ
parts_extent parts = sum_by part_extent parts

-- parts of which this holds, and that take, with what stands in front of them, more than the largest number of 32 bits
pub record AreLong (P : List Part → Type 0) : Type 0 where
  pub parts : List Part
  pub hold : P parts
  pub long : limit < 8 + parts_extent parts

-- ---- interfaces

-- Behind the component types of other interfaces, the interface has no room: it is too heavy by itself, or too long behind them.
abbrev pub LacksInterface : Resolve → Bool → ListedInterface → List Part → Type 0
LacksInterface r canonical e old = (limit < interface_weight r e.1.0)
    ⊎ ((entries : List ListedInterface) → HoldsInterfaces r canonical entries old → AreLong (HoldsInterfaces r canonical (entries ++ e ∷ [])))

-- One of these interfaces is too heavy, or the component types of the first of them are too long together.
pub data InterfacesLackRoom (r : Resolve) (canonical : Bool) (entries : List ListedInterface) : Type 0 where
  too_heavy : (e : ListedInterface) → Contains entries e → limit < interface_weight r e.1.0 → InterfacesLackRoom r canonical entries
  too_long : (first rest : List ListedInterface) → entries ≡ first ++ rest → AreLong (HoldsInterfaces r canonical first)
      → InterfacesLackRoom r canonical entries

-- ---- worlds

-- world n of a package of this name and version is too heavy, with its path
abbrev pub IsHeavyWorld : Resolve → PackageIdentity → ℕ → Type 0
IsHeavyWorld r p n = (w : World) → world_at r n ≡ Some w → limit < length (path_in p (text_of w.name)) + world_weight r n

abbrev pub LacksWorld : Resolve → Bool → PackageIdentity → ListedWorld → List Part → Type 0
LacksWorld r canonical p e old =
    IsHeavyWorld r p e.1.0 ⊎ ((interfaces : List ListedInterface) (worlds : List ListedWorld) → HoldsMembers r canonical p interfaces worlds old
    → AreLong (HoldsMembers r canonical p interfaces (worlds ++ e ∷ [])))

-- One of these worlds is too heavy, or the component types of the interfaces and of the first of these worlds are too long together.
pub data WorldsLackRoom (r : Resolve) (canonical : Bool) (p : PackageIdentity) (interfaces : List ListedInterface) (entries : List ListedWorld) : Type 0 where
  too_heavy : (e : ListedWorld) → Contains entries e → IsHeavyWorld r p e.1.0 → WorldsLackRoom r canonical p interfaces entries
  too_long : (first rest : List ListedWorld) → entries ≡ first ++ rest → AreLong (HoldsMembers r canonical p interfaces first)
      → WorldsLackRoom r canonical p interfaces entries

-- so it is behind whichever interfaces these parts hold
abbrev pub WorldsLackRoomBehind : Resolve → Bool → PackageIdentity → List Part → List ListedWorld → Type 0
WorldsLackRoomBehind r canonical p parts entries = (interfaces : List ListedInterface) → HoldsMembers r canonical p interfaces [] parts
    → WorldsLackRoom r canonical p interfaces entries
