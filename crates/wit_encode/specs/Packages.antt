-- The component of a package: a component type for each interface, and then one for each world in its wrapper, each exported under its name
-- (Component Model WIT.md, "Package Format").
use Rattle.std.specs.Prelude.{◌≡◌, ◌<◌, ◌≤◌, ◌↔◌, ◌||◌, ℕ, Bool, false, true, is_some, List, [], ◌∷◌, ◌++◌, length, Some, String}
use Rattle.std.specs.List.{AllZip, Contains, list_all}
use Rattle.std.specs.declared.alloc.Global.{Global}
use Rattle.wit_model.specs.{Text.Text, Text.text_of, Names.PackageIdentity, Names.path_in, Meant.Meant, Meaning.PackageMeaning}
use Rattle.wit_model.specs.{Lookup.identity_of, Lookup.interface_path, Lookup.package_at, Lookup.world_at, Weight.interface_weight, Weight.world_weight}
use Rattle.wit_model.specs.declared.{error.Error.Error, model.Resolve.Resolve, model.InterfaceId.InterfaceId, model.Package.Package, model.WorldId.WorldId}
use Rattle.wit_model.specs.declared.model.World.{World}
use Rattle.comp_bytes.specs.Raw.{Declarations}
use Rattle.comp_bytes.specs.{Refusal.IsMemoryOrSize, Parts.Part, Parts.sections_of_parts, Spelling.IsComponent, Spelling.preamble, Writing.component_bytes}
use Rattle.comp_meaning.specs.{Follow.is_filled, Reads.Reads}
use Rattle.encode_shown.specs.PackageTypes.{ArePackageTypes, wrapper}
use Rattle.encode_names.specs.Clashes.{HasNoClash}
use Rattle.encode_exports.specs.ExportedParts.{exporting}
use Rattle.wit_encode.specs.{Dependencies.ShowsComponent, DependencyCounts.DefinesComponent, Scopes.HasNoEqualPaths, Scopes.RefusesInterface}
use Rattle.wit_encode.specs.{Instance.declared_extent, WholeWorlds.RefusesWorld, WholeWorlds.ShowsWorldType, WrittenNames.WritesNames, WrittenNames.WritesPaths}
use Rattle.wit_encode.specs.{WorldCounts.DefinesOnce, WorldRoom.entries_in}

-- an interface of a package, by its name
abbrev pub ListedInterface : Type 0
ListedInterface = String Global × InterfaceId

-- each of these interfaces has a path
abbrev pub AreNamed : Resolve → List ListedInterface → Type 0
AreNamed r entries = (e : ListedInterface) → Contains entries e → is_some (interface_path r e.1.0) ≡ true

-- in the component type of none of these interfaces two imports have one canonical path
abbrev pub HaveNoEqualPaths : Resolve → List ListedInterface → Type 0
HaveNoEqualPaths r entries = (e : ListedInterface) → Contains entries e → HasNoEqualPaths r e.1.0

-- What these interfaces, one after the other, are refused for: what the first one is that is refused.
pub record RefusesInterfaces (r : Resolve) (entries : List ListedInterface) (canonical : Bool) (e : Error) : Type 0 where
  pub before : List ListedInterface
  pub refused : ListedInterface
  pub after : List ListedInterface
  pub are : entries ≡ before ++ (refused ∷ after)
  pub differ : canonical ≡ true → HaveNoEqualPaths r before
  pub refuses : RefusesInterface r refused.1.0 canonical e

-- the component type of an interface, under its name, with its paths whole or canonical and each definition once: it takes no more bytes than the
-- interface weighs with what it reaches
pub record IsTypeOf (r : Resolve) (canonical : Bool) (e : ListedInterface) (x : Text × Declarations) : Type 0 where
  pub label : x.0 ≡ text_of e.0
  pub shows : (path : Text) → interface_path r e.1.0 ≡ Some path → ShowsComponent r e.1.0 path x.1
  pub names : WritesPaths r canonical e.1.0 x.1
  pub once : DefinesComponent r e.1.0 x.1
  pub light : declared_extent x.1 ≤ interface_weight r e.1.0

-- a component that exports the component types of these interfaces, in order, and nothing else
pub record HoldsInterfaces (r : Resolve) (canonical : Bool) (entries : List ListedInterface) (parts : List Part) : Type 0 where
  pub types : List (Text × Declarations)
  pub are : AllZip (IsTypeOf r canonical) entries types
  pub is : parts ≡ exporting types

-- behind what is exported already, the component type of an interface, exported under its name
abbrev pub AddsInterface : Resolve → Bool → ListedInterface → List Part → List Part → Type 0
AddsInterface r canonical e old new = (entries : List ListedInterface) → HoldsInterfaces r canonical entries old
    → HoldsInterfaces r canonical (entries ++ e ∷ []) new

-- ---- worlds

-- a world of a package, by its name
abbrev pub ListedWorld : Type 0
ListedWorld = String Global × WorldId

-- The wrapper of world n of a package of this name and version. It defines a component type that shows the world, with names whole or canonical,
-- each definition once and no more bytes than the world weighs. It exports that under the world's path, whole.
pub record WrapsWorld (r : Resolve) (canonical : Bool) (p : PackageIdentity) (n : ℕ) (w : World) (declared : Declarations) : Type 0 where
  pub inner : Declarations
  pub is : declared ≡ wrapper (path_in p (text_of w.name)) inner
  pub shows : ShowsWorldType r w inner
  pub names : WritesNames r canonical w inner
  pub once : DefinesOnce r inner (entries_in w)
  pub light : declared_extent inner ≤ world_weight r n

-- the wrapper of a world, under its name
pub record IsWrapperOf (r : Resolve) (canonical : Bool) (p : PackageIdentity) (e : ListedWorld) (x : Text × Declarations) : Type 0 where
  pub label : x.0 ≡ text_of e.0
  pub world : World
  pub there : world_at r e.1.0 ≡ Some world
  pub wraps : WrapsWorld r canonical p e.1.0 world x.1

-- a component that exports the component types of these interfaces, in order, then the wrappers of these worlds, in order, and nothing else
pub record HoldsMembers (r : Resolve) (canonical : Bool) (p : PackageIdentity) (interfaces : List ListedInterface) (worlds : List ListedWorld)
    (parts : List Part) : Type 0 where
  pub interface_types : List (Text × Declarations)
  pub world_types : List (Text × Declarations)
  pub interfaces_are : AllZip (IsTypeOf r canonical) interfaces interface_types
  pub worlds_are : AllZip (IsWrapperOf r canonical p) worlds world_types
  pub is : parts ≡ exporting (interface_types ++ world_types)

-- behind what is exported already, the wrapper of a world, exported under its name
abbrev pub AddsWorld : Resolve → Bool → PackageIdentity → ListedWorld → List Part → List Part → Type 0
AddsWorld r canonical p e old new = (interfaces : List ListedInterface) (worlds : List ListedWorld) → HoldsMembers r canonical p interfaces worlds old
    → HoldsMembers r canonical p interfaces (worlds ++ e ∷ []) new

-- behind the component types of some interfaces, the wrappers of these worlds
abbrev pub AddsWorlds : Resolve → Bool → PackageIdentity → List ListedWorld → List Part → List Part → Type 0
AddsWorlds r canonical p worlds old new = (interfaces : List ListedInterface) → HoldsMembers r canonical p interfaces [] old
    → HoldsMembers r canonical p interfaces worlds new

-- each of these worlds is in range
abbrev pub AreWorlds : Resolve → List ListedWorld → Type 0
AreWorlds r entries = (e : ListedWorld) → Contains entries e → e.1.0 < length r.worlds.items

-- the declarations show world n
abbrev pub ShowsWorldAt : Resolve → ℕ → Declarations → Type 0
ShowsWorldAt r n declared = (w : World) → world_at r n ≡ Some w → ShowsWorldType r w declared

-- the declarations have each definition of world n once
abbrev pub DefinesWorldOnce : Resolve → ℕ → Declarations → Type 0
DefinesWorldOnce r n declared = (w : World) → world_at r n ≡ Some w → DefinesOnce r declared (entries_in w)

-- the declarations have the names of world n, whole or canonical
abbrev pub WritesNamesAt : Resolve → Bool → ℕ → Declarations → Type 0
WritesNamesAt r canonical n declared = (w : World) → world_at r n ≡ Some w → WritesNames r canonical w declared

-- the wrapper of world n
abbrev pub WrapsWorldAt : Resolve → Bool → PackageIdentity → ℕ → Declarations → Type 0
WrapsWorldAt r canonical p n declared = (w : World) → world_at r n ≡ Some w → WrapsWorld r canonical p n w declared

-- no two imports and no two exports of world n have one canonical name
abbrev pub HasNoClashAt : Resolve → ℕ → Type 0
HasNoClashAt r n = (w : World) → world_at r n ≡ Some w → HasNoClash r w

-- none of these worlds has two imports or two exports of one canonical name
abbrev pub HaveNoClash : Resolve → List ListedWorld → Type 0
HaveNoClash r entries = (e : ListedWorld) → Contains entries e → HasNoClashAt r e.1.0

-- what world n is refused for
abbrev pub RefusesWorldAt : Resolve → ℕ → Bool → Error → Type 0
RefusesWorldAt r n canonical e = (w : World) → world_at r n ≡ Some w → RefusesWorld r w canonical e

-- What these worlds, one after the other, are refused for: what the first one is that is refused.
pub record RefusesWorlds (r : Resolve) (entries : List ListedWorld) (canonical : Bool) (e : Error) : Type 0 where
  pub before : List ListedWorld
  pub refused : ListedWorld
  pub after : List ListedWorld
  pub are : entries ≡ before ++ (refused ∷ after)
  pub differ : canonical ≡ true → HaveNoClash r before
  pub refuses : RefusesWorldAt r refused.1.0 canonical e

-- ---- packages

-- a component that exports the component types of the package, in order, with names whole or canonical, and nothing else
pub record HoldsPackage (r : Resolve) (canonical : Bool) (p : Package) (parts : List Part) : Type 0 where
  pub types : List (Text × Declarations)
  pub are : ArePackageTypes r p types
  pub is : parts ≡ exporting types
  pub members : HoldsMembers r canonical (identity_of p.name) p.interfaces.entries p.worlds.entries parts

-- The bytes are those of such a component in the one spelling that is written, where each number is in its shortest form.
pub record SpellsPackage (r : Resolve) (canonical : Bool) (p : Package) (bytes : List ℕ) : Type 0 where
  pub parts : List Part
  pub holds : HoldsPackage r canonical p parts
  pub are : bytes ≡ component_bytes (sections_of_parts parts)
  pub spells : IsComponent (sections_of_parts parts) bytes

-- In no component type of the package two imports, or two exports, have one canonical name.
pub record HasNoClashes (r : Resolve) (p : Package) : Type 0 where
  pub interfaces : HaveNoEqualPaths r p.interfaces.entries
  pub worlds : HaveNoClash r p.worlds.entries

-- What a package is refused for: what the first of its interfaces is, then of its worlds; and where none clashes, want of memory or of room.
pub data RefusesPackage (r : Resolve) (p : Package) (canonical : Bool) (e : Error) : Type 0 where
  of_interfaces : RefusesInterfaces r p.interfaces.entries canonical e → RefusesPackage r p canonical e
  of_worlds : (canonical ≡ true → HaveNoEqualPaths r p.interfaces.entries) → RefusesWorlds r p.worlds.entries canonical e → RefusesPackage r p canonical e
  of_room : (canonical ≡ true → HasNoClashes r p) → IsMemoryOrSize e → RefusesPackage r p canonical e

-- an interface or a world stands in the package
abbrev pub HasMembers : Package → Type 0
HasMembers p = (is_filled p.interfaces.entries || is_filled p.worlds.entries) ≡ true

-- no interface and no world stands in the package
abbrev pub HasNoMembers : Package → Type 0
HasNoMembers p = (is_filled p.interfaces.entries || is_filled p.worlds.entries) ≡ false

-- The bytes are read as exactly what package n means.
abbrev pub MeansPackage : Resolve → ℕ → List ℕ → Type 0
MeansPackage r n bytes = (m : PackageMeaning) → Meant r n m ↔ Reads bytes m

-- whether a part of a component is a custom section
abbrev pub is_custom : Part → Bool
is_custom (Part.top_type t) = false
is_custom (Part.top_export e) = false
is_custom (Part.custom name contents) = true

-- The bytes of a component with these parts, and custom sections behind them or none, are read as exactly what package n means.
abbrev pub PartsMean : Resolve → ℕ → List Part → Type 0
PartsMean r n parts = (more : List Part) → list_all is_custom more ≡ true → (bytes : List ℕ) → IsComponent (sections_of_parts (parts ++ more)) bytes
    → MeansPackage r n bytes

-- ---- package n

-- a component that holds package n
abbrev pub HoldsPackageAt : Resolve → Bool → ℕ → List Part → Type 0
HoldsPackageAt r canonical n parts = (p : Package) → package_at r n ≡ Some p → HoldsPackage r canonical p parts

-- the bytes of a component that holds package n, in the one spelling that is written
abbrev pub SpellsPackageAt : Resolve → Bool → ℕ → List ℕ → Type 0
SpellsPackageAt r canonical n bytes = (p : Package) → package_at r n ≡ Some p → SpellsPackage r canonical p bytes

-- Where package n has an interface or a world, the parts mean it.
abbrev pub PartsMeanAt : Resolve → ℕ → List Part → Type 0
PartsMeanAt r n parts = (p : Package) → package_at r n ≡ Some p → HasMembers p → PartsMean r n parts

-- Where package n has an interface or a world, the bytes are read as exactly what it means.
abbrev pub MeansPackageAt : Resolve → ℕ → List ℕ → Type 0
MeansPackageAt r n bytes = (p : Package) → package_at r n ≡ Some p → HasMembers p → MeansPackage r n bytes

-- Where package n has neither, the bytes are the preamble alone.
abbrev pub IsPreambleAt : Resolve → ℕ → List ℕ → Type 0
IsPreambleAt r n bytes = (p : Package) → package_at r n ≡ Some p → HasNoMembers p → bytes ≡ preamble

-- in no component type of package n two imports, or two exports, have one canonical name
abbrev pub HasNoClashesAt : Resolve → ℕ → Type 0
HasNoClashesAt r n = (p : Package) → package_at r n ≡ Some p → HasNoClashes r p

-- what package n is refused for
abbrev pub RefusesPackageAt : Resolve → ℕ → Bool → Error → Type 0
RefusesPackageAt r n canonical e = (p : Package) → package_at r n ≡ Some p → RefusesPackage r p canonical e
