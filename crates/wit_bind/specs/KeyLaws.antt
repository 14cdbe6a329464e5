-- A law on the keys of functions (WIT.md, "Worlds").
use Rattle.std.specs.{Prelude.◌≡◌, Prelude.ℕ, Prelude.Some, Prelude.String, List.Contains}
use Rattle.std.specs.declared.alloc.Global.{Global}
use Rattle.wit_model.specs.declared.model.{Resolve.Resolve, Interface.Interface, Function.Function, WorldItem.WorldItem, WorldKey.WorldKey}
use Rattle.wit_model.specs.{Text.Text, Text.text_of, Lookup.interface_at, Uses.item_interface, Valid.IsValid}
use Rattle.bind_keys.specs.{Keys.text_under, Keys.function_key, Functions.Items, Functions.imports_of, Functions.exports_of, Functions.IsFunctionKey}
use Rattle.wit_model.specs.declared.model.WorldItem.TheVariants as item

-- Each function of these items has a key, under its own name.
pub record HaveKeys (r : Resolve) (items : Items) : Type 0 where
  pub themselves : (scope : WorldKey) (f : Function) → Contains items (scope, item.Function f)
      → IsFunctionKey r items (text_under (text_of f.name) (text_of f.name))
  pub members : (scope : WorldKey) (shown : WorldItem) (n : ℕ) (owner : Interface) (name : String Global) (f : Function)
      → Contains items (scope, shown) → item_interface shown ≡ Some n → interface_at r n ≡ Some owner → Contains owner.functions.entries (name, f)
      → (k : Text) × ((function_key r scope (text_of f.name) ≡ Some k) × IsFunctionKey r items k)

-- In a valid `Resolve` each function that a world imports or exports has one.
abbrev pub EachHasAKey : Type 0
EachHasAKey = (r : Resolve) → IsValid r → (n : ℕ) → HaveKeys r (imports_of r n) × HaveKeys r (exports_of r n)
