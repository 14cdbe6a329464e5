-- The functions of a world's imports and of its exports (WIT.md, "Worlds"; documentation of wit-component's `ModuleMetadata`).
use Rattle.std.specs.Prelude.{◌≡◌, ℕ, List, [], Some, String}
use Rattle.std.specs.{List.Contains, Option.option_map_or}
use Rattle.std.specs.declared.alloc.Global.{Global}
use Rattle.wit_model.specs.declared.model.Resolve.{Resolve}
use Rattle.wit_model.specs.declared.model.{Interface.Interface, Function.Function, StringEncoding.StringEncoding, WorldItem.WorldItem, WorldKey.WorldKey}
use Rattle.wit_model.specs.{Text.Text, Text.text_of, Lookup.interface_at, Lookup.world_at, Uses.item_interface}
use Rattle.bind_keys.specs.{Keys.text_under, Keys.function_key, Encodings.Encodings, Encodings.encoding_at}
use Rattle.wit_model.specs.declared.model.WorldItem.TheVariants as item
use Rattle.wit_model.specs.declared.model.WorldKey.TheVariants as key

-- imports, or exports
abbrev pub Items : Type 0
Items = List (WorldKey × WorldItem)

-- what the world of this number imports
abbrev pub imports_of : Resolve → ℕ → Items
imports_of r n = option_map_or (λ w. w.imports.entries) (world_at r n) []

-- what the world of this number exports
abbrev pub exports_of : Resolve → ℕ → Items
exports_of r n = option_map_or (λ w. w.exports.entries) (world_at r n) []

-- k is the key of a function that is an item itself, under its name: `name/name`
pub record IsItemKey (items : Items) (k : Text) : Type 0 where
  pub name : String Global
  pub function : Function
  pub stands : Contains items (key.Name name, item.Function function)
  pub is : k ≡ text_under (text_of name) (text_of name)

-- k is the key of a function of an interface that is an item, freestanding or of a resource
pub record IsMemberKey (r : Resolve) (items : Items) (k : Text) : Type 0 where
  pub scope : WorldKey
  pub shown : WorldItem
  pub stands : Contains items (scope, shown)
  pub number : ℕ
  pub of : item_interface shown ≡ Some number
  pub owner : Interface
  pub at : interface_at r number ≡ Some owner
  pub name : String Global
  pub function : Function
  pub has : Contains owner.functions.entries (name, function)
  pub is : function_key r scope (text_of name) ≡ Some k

-- k is the key of a function of these imports, or exports
pub data IsFunctionKey (r : Resolve) (items : Items) (k : Text) : Type 0 where
  of_item : IsItemKey items k → IsFunctionKey r items k
  of_interface : IsMemberKey r items k → IsFunctionKey r items k

-- A map has the encoding under the key of each function of these items, and nothing else.
pub record MapsFunctions (r : Resolve) (items : Items) (encoding : StringEncoding) (m : Encodings) : Type 0 where
  pub each : (k : Text) → IsFunctionKey r items k → encoding_at m k ≡ Some encoding
  pub only : (k : Text) (e : StringEncoding) → encoding_at m k ≡ Some e → IsFunctionKey r items k × (e ≡ encoding)
