-- Encodings that stood under keys without version, under keys with the compatible version (documentation of wit-component's `EncodingMap`).
use Rattle.std.specs.Prelude.{◌≡◌, ℕ, [], Option, Some, String}
use Rattle.std.specs.{Option.option_map_or, List.Contains}
use Rattle.std.specs.declared.alloc.Global.{Global}
use Rattle.wit_model.specs.declared.model.{Resolve.Resolve, World.World, Interface.Interface, Function.Function, StringEncoding.StringEncoding, WorldItem.WorldItem, WorldKey.WorldKey}
use Rattle.wit_model.specs.{Text.Text, Text.text_of, Lookup.interface_at, Lookup.world_at, Uses.item_interface, Valid.IsValid}
use Rattle.wit_bind.specs.declared.encodings.Side.{Side}
use Rattle.bind_keys.specs.{Keys.function_key, Keys.unversioned_key, Encodings.Encodings, Encodings.encoding_at, Functions.Items}
use Rattle.wit_model.specs.declared.model.WorldItem.TheVariants as item
use Rattle.wit_model.specs.declared.model.WorldKey.TheVariants as key
use Rattle.wit_bind.specs.declared.encodings.Side.TheVariants as sides

-- what a world imports, or exports
abbrev pub items_of : Side → World → Items
items_of sides.Imports w = w.imports.entries
items_of sides.Exports w = w.exports.entries

-- what the world of this number imports, or exports
abbrev pub items_on : Side → Resolve → ℕ → Items
items_on side r n = option_map_or (items_of side) (world_at r n) []

-- A function of these items, by the key of the world that it stands under and by its name: an item itself, or one of an interface that is an item.
pub data IsFunctionOf (r : Resolve) (items : Items) : WorldKey → Text → Type 0 where
  itself : (name : String Global) (f : Function) → Contains items (key.Name name, item.Function f) → IsFunctionOf r items (key.Name name) (text_of name)
  member : (scope : WorldKey) (shown : WorldItem) (number : ℕ) (owner : Interface) (name : String Global) (f : Function)
      → Contains items (scope, shown) → item_interface shown ≡ Some number → interface_at r number ≡ Some owner → Contains owner.functions.entries (name, f)
      → IsFunctionOf r items scope (text_of name)

-- k is the key of a function of these items, which had this encoding under its old key
pub record HadEncoding (old : Text → Option StringEncoding) (r : Resolve) (items : Items) (k : Text) (e : StringEncoding) : Type 0 where
  pub scope : WorldKey
  pub name : Text
  pub of : IsFunctionOf r items scope name
  pub is : function_key r scope name ≡ Some k
  pub was : Text
  pub under : unversioned_key r scope name ≡ Some was
  pub had : old was ≡ Some e

-- A map has an encoding under the key of each function that had one under its old key, and no other than one of those. Other entries of the old map are
-- dropped. In a valid `Resolve` functions that share a key shared their old key, so there is one to choose.
pub record CarriesOver (old : Text → Option StringEncoding) (r : Resolve) (items : Items) (m : Encodings) : Type 0 where
  pub each : (k : Text) (e : StringEncoding) → HadEncoding old r items k e → (f : StringEncoding) × (encoding_at m k ≡ Some f)
  pub only : (k : Text) (e : StringEncoding) → encoding_at m k ≡ Some e → HadEncoding old r items k e

-- A map has, under the key of each function that had an encoding under its old key, just that one, and no others.
pub record CarriesEach (old : Text → Option StringEncoding) (r : Resolve) (items : Items) (m : Encodings) : Type 0 where
  pub each : (k : Text) (e : StringEncoding) → HadEncoding old r items k e → encoding_at m k ≡ Some e
  pub only : (k : Text) (e : StringEncoding) → encoding_at m k ≡ Some e → HadEncoding old r items k e

-- In a valid `Resolve` functions of a world's imports, or of its exports, that share a key share their key without version.
abbrev pub OneOldKey : Type 0
OneOldKey = (r : Resolve) → IsValid r → (side : Side) (n : ℕ) (a b : WorldKey) (f g k : Text) → IsFunctionOf r (items_on side r n) a f
    → IsFunctionOf r (items_on side r n) b g
    → function_key r a f ≡ Some k → function_key r b g ≡ Some k → unversioned_key r a f ≡ unversioned_key r b g
