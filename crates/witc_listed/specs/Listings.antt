-- What bytes mean, as JSON.
use Rattle.std.specs.Prelude.{ℕ, List, []}
use Rattle.wit_model.specs.declared.model.{PackageId.PackageId, Resolve.Resolve, WorldId.WorldId}
use Rattle.wit_bind.specs.declared.bindgen.Bindgen.{Bindgen}
use Rattle.bind_json.specs.Encodings.{bindgen_listing_tokens}
use Rattle.wit_component.specs.{Bindings.IsBindgen, Bindings.binding_of, BoundTo.BeginsWithRoot, DecodedWorlds.IsDecodedWorld, Order.FollowsBytes}
use Rattle.wit_component.specs.{Bound.IsBound, Decoded.IsDecoded, Reached.IsReached}
use Rattle.wit_json.specs.{Listed.package_listing_tokens, Listed.world_listing_tokens, Spelled.Spells}

-- The bytes mean a package, which is decoded so, in the order in which they show it, and the text is the listing of it.
pub record ListsPackage (bytes text : List ℕ) : Type 0 where
  pub resolve : Resolve
  pub id : PackageId
  pub decoded : IsDecoded bytes resolve id.0
  pub order : FollowsBytes bytes resolve
  pub spells : Spells text (package_listing_tokens resolve id.0)

-- The bytes mean one world, which is decoded so, in the order in which they show it, and the text is the listing of it.
pub record ListsWorld (bytes text : List ℕ) : Type 0 where
  pub resolve : Resolve
  pub world : WorldId
  pub decoded : IsDecodedWorld bytes resolve world.0
  pub order : FollowsBytes bytes resolve
  pub spells : Spells text (world_listing_tokens resolve world.0)

-- The bytes are a module that binds this, with `root:root` as the first package, and the text is the listing of it.
pub record ListsModule (bytes text : List ℕ) : Type 0 where
  pub bound : Bindgen
  pub binds : IsBound bytes (binding_of bound)
  pub valid : IsBindgen bound
  pub root : BeginsWithRoot bound.resolve
  pub reached : IsReached bytes bound []
  pub spells : Spells text (bindgen_listing_tokens bound)
