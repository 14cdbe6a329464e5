-- What the names of imports and exports say when they are read.
use Rattle.std.specs.Prelude.{◌≡◌, ℕ, Bool, true, ◌++◌, Some}
use Rattle.std.specs.List.{Contains}
use Rattle.wit_model.specs.{Lookup.world_at, Lookup.interface_path, Lookup.key_text, Meant.item_external_id, Valid.IsValid}
use Rattle.wit_model.specs.declared.model.{Resolve.Resolve, World.World, WorldKey.WorldKey, WorldItem.WorldItem}
use Rattle.comp_bytes.specs.Raw.{ExternName}
use Rattle.comp_meaning.specs.Follow.{key_of, is_simple}
use Rattle.encode_shown.specs.Views.{instance_key}
use Rattle.encode_names.specs.WorldNames.{name_of_item}
use Rattle.wit_model.specs.declared.model.WorldItem.TheVariants as item

-- What a name without attributes but perhaps an external id says: the key's text.
pub record IsKeyAlone (r : Resolve) (k : WorldKey) (name : ExternName) : Type 0 where
  pub simple : is_simple name ≡ true
  pub text : name.text ≡ key_text r k

-- What the name of an item says when it is read: of an interface, the key of its instance; of a function or a type, the key's text.
abbrev pub Says : Resolve → WorldKey → WorldItem → ExternName → Type 0
Says r k (item.Interface id stability docs external_id) name = key_of name ≡ Some (instance_key k (interface_path r id.0))
Says r k (item.Function f) name = IsKeyAlone r k name
Says r k (item.Type_ id) name = IsKeyAlone r k name

pub record ReadsAs (r : Resolve) (e : WorldKey × WorldItem) (name : ExternName) : Type 0 where
  pub says : Says r e.0 e.1 name
  pub external_id : name.external_id ≡ item_external_id r e.1

-- The name of each import and each export of a valid world says which it is, with canonical names and without.
abbrev pub NamesAreRead : Type 0
NamesAreRead = (r : Resolve) (n : ℕ) (w : World) (e : WorldKey × WorldItem) (canonical : Bool) → IsValid r → world_at r n ≡ Some w
    → Contains (w.imports.entries ++ w.exports.entries) e → ReadsAs r e (name_of_item r canonical e)
