-- How many bytes are written at most of what an encoder is asked to add (Component Model Binary.md, "Type Definitions" and "Import and Export
-- Definitions"), and that a type and a function weigh no less.
use Rattle.std.specs.Prelude.{ℕ, ◌≡◌, ◌≤◌, ◌+◌, Bool, true, false, nat_eq, List, [], map, length, sum_by, Some, None, is_some}
use Rattle.std.specs.List.{AllPairs, Contains}
use Rattle.indexmap.specs.IndexMap.{values}
use Rattle.wit_model.specs.{Text.Text, Text.text_of, Tree.Tree, Meant.signature_of, Lookup.type_at, Lookup.interface_at, Lookup.interface_path, Lookup.world_at}
use Rattle.wit_model.specs.{Meaning.Signature, Valid.IsValid}
use Rattle.wit_model.specs.Weight.{definition_weight, function_weight, interface_weight, types_instance_weight, whole_instance_weight, world_weight}
use Rattle.wit_model.specs.declared.model.{Resolve.Resolve, TypeDef.TypeDef, WorldId.WorldId}
use Rattle.wit_model.specs.declared.model.{Function.Function, Interface.Interface, InterfaceId.InterfaceId, World.World, WorldKey.WorldKey, WorldItem.WorldItem}
use Rattle.comp_bytes.specs.declared.forms.{ComponentDefinedType.ComponentDefinedType, ComponentFuncType.ComponentFuncType, ComponentTypeRef.ComponentTypeRef}
use Rattle.comp_bytes.specs.{Raw.Alias, Raw.Declaration, Raw.ExternName, RawOf.raw_defined, RawOf.raw_function, Writing.declaration_bytes}
use Rattle.comp_meaning.specs.Follow.{Slot}
use Rattle.encode_types.specs.{Slots.Follows, Slots.FollowsFunction, Standing.SlotsStand, MetKinds.ReachedFrom, MetKinds.referred, Room.function_name}
use Rattle.encode_types.specs.Kinds.{kind_tree}
use Rattle.encode_shown.specs.Views.{AreReached}
use Rattle.encode_names.specs.WorldNames.{name_of_interface, name_of_item}
use Rattle.wit_encode.specs.{Order.functions_in_order, WorldRoom.entries_in, WorldRoom.IsMetAmong}
use Rattle.wit_model.specs.declared.model.WorldItem.TheVariants as item
pub use Rattle.encode_types.specs.Extents.{labels_extent, tree_extent, signature_extent, given_length, name_extent, own_name_extent, import_extent, number_extent, function_extent}

-- ---- laws

-- A definition that, followed, is a tree, takes no more bytes than its tree says; the type of a function, and an import or an export, no more
-- than the signature and the name say. An alias takes sixteen bytes and those of its name.
pub record BytesAreFew : Type 0 where
  pub definitions : (slots : List Slot) (d : ComponentDefinedType) (t : Tree) → Follows (SlotsStand slots) d t
      → length (declaration_bytes (Declaration.defined (raw_defined d))) ≤ tree_extent t
  pub functions : (slots : List Slot) (f : ComponentFuncType) (s : Signature) → FollowsFunction (SlotsStand slots) f s
      → length (declaration_bytes (Declaration.function (raw_function f))) ≤ signature_extent s
  pub imports : (name : ExternName) (described : ComponentTypeRef) → length (declaration_bytes (Declaration.imported name described)) ≤ name_extent name
  pub exports : (name : ExternName) (described : ComponentTypeRef) → length (declaration_bytes (Declaration.exported name described)) ≤ name_extent name
  pub aliases : (k : ℕ) (name : Text) → length (declaration_bytes (Declaration.alias_of (Alias.of_export k name))) ≤ 16 + length name
  pub outer_aliases : (k n : ℕ) → length (declaration_bytes (Declaration.alias_of (Alias.of_outer k n))) ≤ 16

-- The definition of a type, and its export where it has a name, take no more bytes than the type weighs.
abbrev pub TypesAreLight : Type 0
TypesAreLight = (r : Resolve) (n : ℕ) (def : TypeDef) → IsValid r → type_at r n ≡ Some def
    → tree_extent (kind_tree r def.kind) + own_name_extent r def ≤ definition_weight def

-- The type of a function and its export take no more bytes than the function weighs.
abbrev pub FunctionsAreLight : Type 0
FunctionsAreLight = (r : Resolve) (f : Function) → signature_extent (signature_of r f) + name_extent (function_name (text_of f.name, f)) ≤ function_weight f

-- ---- sums

-- Type numbers that the types and functions of an interface meet, each once, and its functions, take with 64 bytes no more than the interface
-- weighs.
abbrev pub InstancesAreLight : Type 0
InstancesAreLight = (r : Resolve) (i : InterfaceId) (def : Interface) (numbers : List ℕ) → IsValid r → interface_at r i.0 ≡ Some def
    → AllPairs (λ x y. nat_eq x y ≡ false) numbers
    → ((n : ℕ) → Contains numbers n → ReachedFrom r (Some i) (referred (values def.types) (map (λ f. f.1) (functions_in_order def))) n)
    → 64 + (sum_by (number_extent r (Some i)) numbers + sum_by (function_extent r) (functions_in_order def)) ≤ whole_instance_weight r i.0

-- The same of the types alone.
abbrev pub DependenciesAreLight : Type 0
DependenciesAreLight = (r : Resolve) (i : InterfaceId) (def : Interface) (numbers : List ℕ) → IsValid r → interface_at r i.0 ≡ Some def
    → AllPairs (λ x y. nat_eq x y ≡ false) numbers
    → ((n : ℕ) → Contains numbers n → ReachedFrom r (Some i) (referred (values def.types) []) n)
    → 64 + sum_by (number_extent r (Some i)) numbers ≤ types_instance_weight r i.0

-- the import of the types of an interface, or the import or the export of an interface, whose instance type weighs so much
abbrev pub instance_extent : ExternName → ℕ → ℕ
instance_extent name weight = 8 + (name_extent name + weight)

-- The imports of the interfaces that an interface reaches, and its own export, take with 64 bytes no more than it weighs with what it reaches, where
-- each instance type takes no more than its interface weighs.
abbrev pub ComponentsAreLight : Type 0
ComponentsAreLight = (r : Resolve) (i : InterfaceId) (reached : List ℕ) (canonical : Bool) → IsValid r → is_some (interface_path r i.0) ≡ true
    → AreReached r i.0 reached
    → 64 + (sum_by (λ n. instance_extent (name_of_interface r canonical n) (types_instance_weight r n)) reached + instance_extent
    (name_of_interface r canonical i.0) (whole_instance_weight r i.0)) ≤ interface_weight r i.0

-- an import or an export of a world: a type counts by its number alone
abbrev pub item_extent : Resolve → Bool → WorldKey × WorldItem → ℕ
item_extent r canonical (k, item.Interface id stability docs external_id) =
    instance_extent (name_of_item r canonical (k, item.Interface id stability docs external_id)) (whole_instance_weight r id.0)
item_extent r canonical (k, item.Function f) = signature_extent (signature_of r f) + name_extent (name_of_item r canonical (k, item.Function f))
item_extent r canonical (k, item.Type_ id) = 0

-- Type numbers that a world meets, each once, and its imports and exports, take with 64 bytes no more than the world weighs.
abbrev pub WorldsAreLight : Type 0
WorldsAreLight = (r : Resolve) (w : WorldId) (def : World) (numbers : List ℕ) (canonical : Bool) → IsValid r → world_at r w.0 ≡ Some def
    → AllPairs (λ x y. nat_eq x y ≡ false) numbers
    → ((n : ℕ) → Contains numbers n → IsMetAmong r (entries_in def) n)
    → 64 + (sum_by (number_extent r None) numbers + sum_by (item_extent r canonical) (entries_in def)) ≤ world_weight r w.0
