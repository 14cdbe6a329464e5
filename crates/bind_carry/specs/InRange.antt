-- What stands in a `Resolve` names numbers of its lists alone, and none of these is too long.
use Rattle.std.specs.Prelude.{◌≡◌, ◌≤◌, ℕ, true, length, Some}
use Rattle.wit_model.specs.Lookup.{interface_at, package_at, type_at, world_at}
use Rattle.wit_model.specs.declared.model.{Interface.Interface, Package.Package, Resolve.Resolve, TypeDef.TypeDef, World.World}
use Rattle.bind_copy.specs.Copies.{are_names_below, AreEntriesBelow, AreFunctionsBelow}
use Rattle.bind_carry.specs.{Fates.FallBelow, Listed.are_interfaces_below, Listed.are_worlds_below, Listed.IsHomeBelow, Listed.IsOwnerBelow}

pub record IsInRange (r : Resolve) : Type 0 where
  pub few_packages : length r.packages.items ≤ 4294967295
  pub few_interfaces : length r.interfaces.items ≤ 4294967295
  pub few_worlds : length r.worlds.items ≤ 4294967295
  pub few_types : length r.types.items ≤ 4294967295
  pub listed_interfaces : (n : ℕ) (p : Package) → package_at r n ≡ Some p → are_interfaces_below (length r.interfaces.items) p.interfaces.entries ≡ true
  pub listed_worlds : (n : ℕ) (p : Package) → package_at r n ≡ Some p → are_worlds_below (length r.worlds.items) p.worlds.entries ≡ true
  pub interface_homes : (n : ℕ) (i : Interface) → interface_at r n ≡ Some i → IsHomeBelow (length r.packages.items) i.«package»
  pub type_names : (n : ℕ) (i : Interface) → interface_at r n ≡ Some i → are_names_below (length r.types.items) i.types.entries ≡ true
  pub functions : (n : ℕ) (i : Interface) → interface_at r n ≡ Some i → AreFunctionsBelow (length r.types.items) i.functions.entries
  pub world_homes : (n : ℕ) (w : World) → world_at r n ≡ Some w → IsHomeBelow (length r.packages.items) w.«package»
  pub imports : (n : ℕ) (w : World) → world_at r n ≡ Some w → AreEntriesBelow (length r.interfaces.items) (length r.types.items) w.imports.entries
  pub exports : (n : ℕ) (w : World) → world_at r n ≡ Some w → AreEntriesBelow (length r.interfaces.items) (length r.types.items) w.exports.entries
  pub owners : (n : ℕ) (def : TypeDef) → type_at r n ≡ Some def → IsOwnerBelow (length r.interfaces.items) (length r.worlds.items) def.owner
  pub falls : FallBelow r.types.items
