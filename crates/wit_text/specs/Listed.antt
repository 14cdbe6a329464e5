-- Packages as they list what texts declare, by number.
use Rattle.std.specs.Prelude.{◌≡◌, ◌<◌, ℕ, Bool, nat_eq, List, [], length, map, filter, Option, Some, take, slice_get, String}
use Rattle.std.specs.declared.alloc.Global.{Global}
use Rattle.wit_model.specs.Text.{text_of}
use Rattle.wit_model.specs.declared.model.{InterfaceId.InterfaceId, Package.Package, WorldId.WorldId}
use Rattle.print_items.specs.Shown.{shown_head}
use Rattle.text_names.specs.declared.sources.{InterfaceSource.InterfaceSource, PackageSource.PackageSource, Sources.Sources, WorldSource.WorldSource}
use Rattle.text_names.specs.{Contents.text_at, Tables.head_there, Tables.heads_of}
use Rattle.text_trees.specs.Seen.{cut}
use Rattle.text_types.specs.Each.{EachIs}
use Rattle.wit_text.specs.Puts.{number_at}

-- whether an interface is one of the package of this number
abbrev pub is_of : ℕ → InterfaceSource → Bool
is_of home source = nat_eq source.«package» home

-- whether a world is one of the package of this number
abbrev pub is_world_of : ℕ → WorldSource → Bool
is_world_of home source = nat_eq source.«package» home

-- The entry is an interface of this package, one of so many first of the texts: it has its name, and its number among those that are made.
pub record IsListed (s : Sources) (numbers : List (Option ℕ)) (home count : ℕ) (source : InterfaceSource) (entry : String Global × InterfaceId) : Type 0 where
  pub own : ℕ
  pub below : own < count
  pub there : slice_get s.interfaces.items own ≡ Some source
  pub home_is : source.«package» ≡ home
  pub name : text_of entry.0 ≡ cut (text_at s.texts.now source.text) source.name
  pub number : entry.1.0 ≡ number_at numbers own

-- The entry is a world of this package, one of so many first of the texts: it has its name and its number.
pub record IsWorldListed (s : Sources) (home count : ℕ) (source : WorldSource) (entry : String Global × WorldId) : Type 0 where
  pub own : ℕ
  pub below : own < count
  pub there : slice_get s.worlds.items own ≡ Some source
  pub home_is : source.«package» ≡ home
  pub name : text_of entry.0 ≡ cut (text_at s.texts.now source.text) source.name
  pub number : entry.1.0 ≡ own

-- Each package lists those of so many first interfaces that are its own, in order.
abbrev pub AreListed : Sources → List (Option ℕ) → ℕ → List Package → Type 0
AreListed s numbers count packages =
    (n : ℕ) (p : Package) → slice_get packages n ≡ Some p
    → EachIs (IsListed s numbers n count) (filter (is_of n) (take count s.interfaces.items)) p.interfaces.entries

-- Each package lists those of so many first worlds that are its own, in order.
abbrev pub AreWorldsListed : Sources → ℕ → List Package → Type 0
AreWorldsListed s count packages =
    (n : ℕ) (p : Package) → slice_get packages n ≡ Some p
    → EachIs (IsWorldListed s n count) (filter (is_world_of n) (take count s.worlds.items)) p.worlds.entries

-- A package has its name, and nothing else.
pub record IsBarePackage (s : Sources) (source : PackageSource) (p : Package) : Type 0 where
  pub head : shown_head p ≡ head_there s.texts.now source
  pub interfaces : p.interfaces.entries ≡ []
  pub worlds : p.worlds.entries ≡ []

-- The names and the worlds of packages stay.
pub record KeepsWorlds (old new : List Package) : Type 0 where
  pub heads : map shown_head new ≡ map shown_head old
  pub worlds : map (λ p. p.worlds.entries) new ≡ map (λ p. p.worlds.entries) old

-- The names and the interfaces of packages stay.
pub record KeepsInterfaces (old new : List Package) : Type 0 where
  pub heads : map shown_head new ≡ map shown_head old
  pub interfaces : map (λ p. p.interfaces.entries) new ≡ map (λ p. p.interfaces.entries) old

-- The packages are those of the texts, by number, and list their interfaces and worlds in the order of the texts.
pub record ListsPackages (s : Sources) (numbers : List (Option ℕ)) (packages : List Package) : Type 0 where
  pub heads : map shown_head packages ≡ heads_of s
  pub interfaces : AreListed s numbers (length s.interfaces.items) packages
  pub worlds : AreWorldsListed s (length s.worlds.items) packages
