-- Interfaces and worlds of texts that are made one after the other.
use Rattle.std.specs.Prelude.{◌≡◌, ◌<◌, ◌+◌, ℕ, List, length, take, Some, Contains, slice_get}
use Rattle.std.specs.List.{slice_index_or}
use Rattle.wit_model.specs.declared.model.{Interface.Interface, Resolve.Resolve, TypeDef.TypeDef, World.World}
use Rattle.text_names.specs.declared.sources.{InterfaceSource.InterfaceSource, Sources.Sources, WorldSource.WorldSource}
use Rattle.text_types.specs.declared.members.Interfaces.{Interfaces}
use Rattle.wit_text.specs.{Listed.ListsPackages, MadeInterfaces.AreAllMade, MadeInterfaces.IsInterfaceMade, MadeWorlds.AreWorldsMade, MadeWorlds.IsEachWorldMade}
use Rattle.text_plain.specs.Orders.{AreApart}

-- What has this number is made of the interface of the other number of the texts.
pub record IsMadeOf (s : Sources) (interfaces : Interfaces) (defs : List TypeDef) (n number : ℕ) : Type 0 where
  pub source : InterfaceSource
  pub there : slice_get s.interfaces.items n ≡ Some source
  pub made : Interface
  pub stands : slice_get interfaces.list.items number ≡ Some made
  pub is : IsInterfaceMade s interfaces defs source number made

-- The interface of this number of the texts has a number among those that are made.
pub record HasNumber (interfaces : Interfaces) (n : ℕ) : Type 0 where
  pub number : ℕ
  pub is : slice_get interfaces.numbers.items n ≡ Some (Some number)

-- The interfaces of these numbers are made, and no others have numbers.
pub record AreMadeSoFar (s : Sources) (done : List ℕ) (interfaces : Interfaces) (defs : List TypeDef) : Type 0 where
  pub many : length interfaces.numbers.items ≡ length s.interfaces.items
  pub made : (n number : ℕ) → slice_get interfaces.numbers.items n ≡ Some (Some number) → IsMadeOf s interfaces defs n number
  pub known : (n number : ℕ) → slice_get interfaces.numbers.items n ≡ Some (Some number) → Contains done n
  pub each : (n : ℕ) → Contains done n → n < length s.interfaces.items → HasNumber interfaces n

-- This number stands at this place of an order in which each stands once.
pub record IsNext (order : List ℕ) (place own : ℕ) : Type 0 where
  pub apart : AreApart order
  pub low : place < length order
  pub is : own ≡ slice_index_or order place own

-- Where the interfaces before this one were made, this one is made too.
abbrev pub MakesNext : Sources → ℕ → Interfaces → List TypeDef → Interfaces → List TypeDef → Type 0
MakesNext s own old defs new more =
    (order : List ℕ) (place : ℕ) → IsNext order place own → AreMadeSoFar s (take place order) old defs → AreMadeSoFar s (take (place + 1) order) new more

-- So many first worlds of the texts are made.
pub record AreWorldsSoFar (s : Sources) (interfaces : Interfaces) (defs : List TypeDef) (worlds : List World) (count : ℕ) : Type 0 where
  pub many : length worlds ≡ count
  pub each : (n : ℕ) (source : WorldSource) → n < count → slice_get s.worlds.items n ≡ Some source → IsEachWorldMade s interfaces defs worlds n source

-- A `Resolve` has what texts declare: its interfaces and worlds are those of the texts, by number, and its packages list them.
pub record IsResolveOf (s : Sources) (r : Resolve) : Type 0 where
  pub interfaces : Interfaces
  pub list : interfaces.list.items ≡ r.interfaces.items
  pub made : AreAllMade s interfaces r.types.items
  pub worlds : AreWorldsMade s interfaces r.types.items r.worlds.items
  pub packages : ListsPackages s interfaces.numbers.items r.packages.items
