-- What an item of a world meets stands before it (WIT.md, "Worlds: use").
use Rattle.std.specs.Prelude.{ℕ, ◌≡◌, true, List, [], ◌∷◌, Some, filter_map, is_some, slice_get, take}
use Rattle.std.specs.List.{Contains}
use Rattle.wit_model.specs.{Lookup.interface_path, Lookup.world_at, Parts.function_types, Uses.item_interface, Uses.items_of, Valid.IsValid}
use Rattle.wit_model.specs.declared.model.{Resolve.Resolve, World.World, WorldId.WorldId, WorldItem.WorldItem, «Type».«Type» as ValueType}
use Rattle.encode_types.specs.Scope.{Scope}
use Rattle.wit_encode.specs.OwnerScope.{IsScopeOf, InstancesStand}
use Rattle.wit_model.specs.declared.model.WorldItem.TheVariants as item
use Rattle.wit_model.specs.declared.model.TypeOwner.TheVariants as owner
use Rattle.wit_model.specs.declared.model.«Type».TheVariants as ty

-- the types that an item refers to in the scope of its world
abbrev pub item_types : WorldItem → List ValueType
item_types (item.Interface id stability docs external_id) = []
item_types (item.Function f) = function_types f
item_types (item.Type_ id) = ty.Id id ∷ []

-- the interfaces before place k of the items of a world
abbrev pub interfaces_before : World → ℕ → List ℕ
interfaces_before w k = filter_map item_interface (take k (items_of w))

-- those that have a name are among these numbers
abbrev pub StandBefore : Resolve → World → ℕ → List ℕ → Type 0
StandBefore r w k standing = (j : ℕ) → Contains (interfaces_before w k) j → is_some (interface_path r j) ≡ true → Contains standing j

-- Where an instance stands of each named interface before an item of a valid world, one stands of each other interface whose types the item
-- meets.
abbrev pub ItemsMeetStanding : Type 0
ItemsMeetStanding = (r : Resolve) (id : WorldId) (w : World) (k : ℕ) (i : WorldItem) (scope : Scope) → IsValid r → world_at r id.0 ≡ Some w
    → slice_get (items_of w) k ≡ Some i
    → IsScopeOf r (owner.World id) scope → StandBefore r w k scope.instances → InstancesStand r scope (item_types i)
