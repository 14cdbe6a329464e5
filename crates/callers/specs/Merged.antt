-- Worlds and modules bound together, and their text.
use Rattle.std.specs.Prelude.{◌≡◌, ◌<◌, ℕ, List, Some, length}
use Rattle.wit_model.specs.declared.{error.Error.Error, error.Error.TheVariants.Memory, error.Error.TheVariants.Size, model.StringEncoding.StringEncoding}
use Rattle.wit_model.specs.declared.model.{PackageId.PackageId, World.World}
use Rattle.wit_bind.specs.declared.bindgen.Bindgen.{Bindgen}
use Rattle.wit_component.specs.{Binding.Binding, Bindings.IsBindgen, Bindings.binding_of, Functions.MapsFunctions, Functions.exports_of, Functions.imports_of}
use Rattle.wit_component.specs.{Bound.IsBound, Bound.RefusesBindings, DecodedWorlds.IsDecodedWorld, DecodedWorlds.RefusesWorldBytes, RootBinding.root_binding}
use Rattle.wit_component.specs.{Clash.CanUnite, Lookup.world_at, Merges.IsMergeRefusal, Reached.OutgrowsLists, Roots.IsRoot, Union.union}
use Rattle.callers.specs.Printed.{IsTextOf}

-- The binding is of the world that the bytes mean, and each of its functions has this encoding.
pub record BindsWorld (bytes : List ℕ) (e : StringEncoding) (b : Bindgen) : Type 0 where
  pub decoded : IsDecodedWorld bytes b.resolve b.world.0
  pub imports : MapsFunctions b.resolve (imports_of b.resolve b.world.0) e b.metadata.import_encodings
  pub exports : MapsFunctions b.resolve (exports_of b.resolve b.world.0) e b.metadata.export_encodings

-- Each of the byte strings binds a world; the two unite; and this is their union.
pub record MergesWorlds (first second : List ℕ) (e : StringEncoding) (b : Bindgen) : Type 0 where
  pub own : Bindgen
  pub other : Bindgen
  pub binds_own : BindsWorld first e own
  pub binds_other : BindsWorld second e other
  pub unite : CanUnite (binding_of own) (binding_of other)
  pub bindgen : IsBindgen b
  pub is_union : binding_of b ≡ union (binding_of own) (binding_of other)

-- One of the byte strings means no one world, or the two don't merge.
pub data RefusesWorlds (first second : List ℕ) (e : StringEncoding) (error : Error) : Type 0 where
  no_first : RefusesWorldBytes first error → RefusesWorlds first second e error
  no_second : RefusesWorldBytes second error → RefusesWorlds first second e error
  apart : (own other : Bindgen) → BindsWorld first e own → BindsWorld second e other → IsMergeRefusal own other error → RefusesWorlds first second e error

-- The byte string binds a world; the binding that every module begins with unites with it; and this is their union.
pub record MergesWithRoot (bytes : List ℕ) (e : StringEncoding) (b : Bindgen) : Type 0 where
  pub other : Bindgen
  pub binds_other : BindsWorld bytes e other
  pub unite : CanUnite root_binding (binding_of other)
  pub bindgen : IsBindgen b
  pub is_union : binding_of b ≡ union root_binding (binding_of other)
  pub some : 0 < length b.resolve.packages.items

-- There is no memory, or the byte string means no one world, or the root world doesn't merge with it.
pub data RefusesWithRoot (bytes : List ℕ) (e : StringEncoding) (error : Error) : Type 0 where
  memory : error ≡ Memory → RefusesWithRoot bytes e error
  no_world : RefusesWorldBytes bytes error → RefusesWithRoot bytes e error
  apart : (own other : Bindgen) → IsRoot own → BindsWorld bytes e other → IsMergeRefusal own other error → RefusesWithRoot bytes e error

-- Each of the modules binds something; the two unite; and this is their union.
pub record MergesModules (first second : List ℕ) (b : Bindgen) : Type 0 where
  pub own : Binding
  pub other : Binding
  pub binds_own : IsBound first own
  pub binds_other : IsBound second other
  pub unite : CanUnite own other
  pub bindgen : IsBindgen b
  pub is_union : binding_of b ≡ union own other
  pub some : 0 < length b.resolve.packages.items

-- One of the modules is refused, for size only where a list would get too long; or the two don't merge.
pub data RefusesModules (first second : List ℕ) (error : Error) : Type 0 where
  no_first : RefusesBindings first error → (error ≡ Size → OutgrowsLists first) → RefusesModules first second error
  no_second : RefusesBindings second error → (error ≡ Size → OutgrowsLists second) → RefusesModules first second error
  apart : (own other : Bindgen) → IsBound first (binding_of own) → IsBound second (binding_of other) → IsMergeRefusal own other error
      → RefusesModules first second error

-- The package is the one of the world that is bound.
pub record IsHome (b : Bindgen) (home : PackageId) : Type 0 where
  pub world : World
  pub stands : world_at b.resolve b.world.0 ≡ Some world
  pub is : world.package ≡ Some home
  pub in_range : home.0 < length b.resolve.packages.items

-- The text is of the package of the world of the union.
pub record PrintsWorlds (first second : List ℕ) (e : StringEncoding) (text : List ℕ) : Type 0 where
  pub bound : Bindgen
  pub merges : MergesWorlds first second e bound
  pub home : PackageId
  pub is_home : IsHome bound home
  pub is_text : IsTextOf bound.resolve home text

-- The text is of the first package of the union.
pub record PrintsModules (first second text : List ℕ) : Type 0 where
  pub bound : Bindgen
  pub merges : MergesModules first second bound
  pub is_text : IsTextOf bound.resolve (record { 0 = 0 }) text

-- So it is of the union of the binding that every module begins with and the world.
pub record PrintsWithRoot (bytes : List ℕ) (e : StringEncoding) (text : List ℕ) : Type 0 where
  pub bound : Bindgen
  pub merges : MergesWithRoot bytes e bound
  pub is_text : IsTextOf bound.resolve (record { 0 = 0 }) text
