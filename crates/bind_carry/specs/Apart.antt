-- What is added stands under keys that weren't there.
use Rattle.std.specs.Prelude.{◌≡◌, ℕ, ◌++◌, slice_get, string_eq, Some}
use Rattle.indexmap.specs.IndexMap.{insert_all}
use Rattle.wit_model.specs.declared.model.{Package.Package, Resolve.Resolve, World.World}
use Rattle.wit_model.specs.{Lookup.package_at, Lookup.world_at, Valid.key_eq}
use Rattle.bind_add.specs.declared.added.{Added.Added, Names.Names}

-- So it comes behind what was there.
pub record IsApart (added : Added) (own : Resolve) (world : ℕ) : Type 0 where
  pub interfaces : (i : ℕ) (n : Names) (p : Package) → slice_get added.names.items i ≡ Some n → package_at own n.«package».0 ≡ Some p
      → insert_all string_eq p.interfaces.entries n.interfaces.entries ≡ p.interfaces.entries ++ n.interfaces.entries
  pub worlds : (i : ℕ) (n : Names) (p : Package) → slice_get added.names.items i ≡ Some n → package_at own n.«package».0 ≡ Some p
      → insert_all string_eq p.worlds.entries n.worlds.entries ≡ p.worlds.entries ++ n.worlds.entries
  pub imports : (w : World) → world_at own world ≡ Some w
      → insert_all key_eq w.imports.entries added.imports.entries ≡ w.imports.entries ++ added.imports.entries
  pub exports : (w : World) → world_at own world ≡ Some w
      → insert_all key_eq w.exports.entries added.exports.entries ≡ w.exports.entries ++ added.exports.entries
