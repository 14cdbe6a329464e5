-- All that is carried by path, as it is added.
use Rattle.std.specs.Prelude.{◌≡◌, ℕ, true, List, [], length, Some}
use Rattle.std.specs.List.{AllZip}
use Rattle.wit_model.specs.Lookup.{interface_at, package_at, world_at}
use Rattle.wit_model.specs.declared.model.{Interface.Interface, Package.Package, Resolve.Resolve, TypeDef.TypeDef, World.World}
use Rattle.bind_add.specs.declared.added.Added.{Added}
use Rattle.bind_copy.specs.Copies.{are_names_below, AreEntriesBelow, AreFunctionsBelow}
use Rattle.bind_carry.specs.{Numbers.copied_count, Listed.are_interfaces_below, Listed.are_worlds_below, Listed.IsHomeBelow, Packaged.grown_packages, Packaged.IsGained, Packaged.IsPackageCarried, Whole.kept, Whole.IsInterfaceCarried, Whole.IsWorldCarried}
use Rattle.bind_carry.specs.declared.plan.Carried.{Carried}

-- All numbers of the other have new ones, with so many for types.
pub record IsCarriedReady (other : Resolve) (c : Carried) (types : ℕ) : Type 0 where
  pub package_count : length c.packages.items ≡ length other.packages.items
  pub interface_count : length c.interfaces.items ≡ length other.interfaces.items
  pub world_count : length c.worlds.items ≡ length other.worlds.items
  pub listed_interfaces : (n : ℕ) (p : Package) → package_at other n ≡ Some p
      → are_interfaces_below (length c.copied_interfaces.items) p.interfaces.entries ≡ true
  pub listed_worlds : (n : ℕ) (p : Package) → package_at other n ≡ Some p → are_worlds_below (length c.copied_worlds.items) p.worlds.entries ≡ true
  pub interface_homes : (n : ℕ) (i : Interface) → interface_at other n ≡ Some i → IsHomeBelow (length c.packages.items) i.«package»
  pub type_names : (n : ℕ) (i : Interface) → interface_at other n ≡ Some i → are_names_below types i.types.entries ≡ true
  pub functions : (n : ℕ) (i : Interface) → interface_at other n ≡ Some i → AreFunctionsBelow types i.functions.entries
  pub world_homes : (n : ℕ) (w : World) → world_at other n ≡ Some w → IsHomeBelow (length c.packages.items) w.«package»
  pub imports : (n : ℕ) (w : World) → world_at other n ≡ Some w → AreEntriesBelow (length c.interfaces.items) types w.imports.entries
  pub exports : (n : ℕ) (w : World) → world_at other n ≡ Some w → AreEntriesBelow (length c.interfaces.items) types w.exports.entries

-- Packages, interfaces and worlds are copied, own packages gain names, and nothing is there yet for the bound world.
pub record IsCarriedOver (other : Resolve) (c : Carried) (types : List ℕ) (defs : List TypeDef) (a : Added) : Type 0 where
  pub packages : AllZip (IsPackageCarried c) (kept c.new_packages.items other.packages.items) a.packages.items
  pub names : AllZip (IsGained c) (grown_packages c.new_packages.items c.packages.items other.packages.items) a.names.items
  pub interfaces : AllZip (IsInterfaceCarried c types) (kept c.copied_interfaces.items other.interfaces.items) a.interfaces.items
  pub worlds : AllZip (IsWorldCarried c types) (kept c.copied_worlds.items other.worlds.items) a.worlds.items
  pub type_defs : a.types.items ≡ defs
  pub no_imports : a.imports.entries ≡ []
  pub no_exports : a.exports.entries ≡ []

-- So it is, with a place for each interface that is carried, in the place of the interface, and so many places for types.
pub record IsPlacedOver (other : Resolve) (c : Carried) (types : List ℕ) (type_count : ℕ) (a : Added) : Type 0 where
  pub packages : AllZip (IsPackageCarried c) (kept c.new_packages.items other.packages.items) a.packages.items
  pub names : AllZip (IsGained c) (grown_packages c.new_packages.items c.packages.items other.packages.items) a.names.items
  pub places : length a.interfaces.items ≡ copied_count c.copied_interfaces.items
  pub worlds : AllZip (IsWorldCarried c types) (kept c.copied_worlds.items other.worlds.items) a.worlds.items
  pub type_places : length a.types.items ≡ type_count
  pub no_imports : a.imports.entries ≡ []
  pub no_exports : a.exports.entries ≡ []
