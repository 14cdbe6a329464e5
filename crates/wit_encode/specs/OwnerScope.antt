-- The scope of an owner of types and functions: an interface with a name, an inline interface, or a world
-- (WIT.md, "Interfaces: use" and "Worlds"; Component Model Binary.md, "Index Spaces").
use Rattle.std.specs.Prelude.{ℕ, ◌≡◌, ◌<◌, ◌⊎◌, length, Bool, true, List, [], ◌∷◌, Some, String, is_some}
use Rattle.std.specs.{List.Contains, Option.option_map_or}
use Rattle.std.specs.declared.alloc.Global.{Global}
use Rattle.wit_model.specs.{Text.text_of, Uses.used_interface, Uses.direct_deps, Valid.IsValid, Valid.functions_of_interface, Valid.functions_of_world}
use Rattle.wit_model.specs.{Lookup.type_at, Lookup.interface_at, Lookup.world_at, Lookup.place_of, Meant.type_meaning, Parts.is_resource, Parts.function_types}
use Rattle.wit_model.specs.Rules.{is_use}
use Rattle.wit_model.specs.declared.model.{Resolve.Resolve, Function.Function, InterfaceId.InterfaceId, TypeOwner.TypeOwner, «Type».«Type» as ValueType}
use Rattle.wit_model.specs.declared.model.{TypeDef.TypeDef, TypeId.TypeId}
use Rattle.encode_types.specs.{Scope.Scope, Resources.Names, Resources.is_named_interface, Resources.is_met_owner, Table.interface_of_owner, Table.table_scope}
use Rattle.encode_types.specs.{Plan.AllInRange, Plan.foreign_owner, MetKinds.ReachedFrom, Fits.CanEncode}
use Rattle.wit_encode.specs.Instance.{CanEncodeFunction}
use Rattle.wit_model.specs.declared.model.TypeOwner.TheVariants as owner
use Rattle.wit_model.specs.declared.model.«Type».TheVariants as ty

-- The names of the types of owners that are met stand for resources exactly where the types are resources.
abbrev pub NamesAgree : Resolve → Names → (TypeOwner → Bool) → Type 0
NamesAgree r names met = (n : ℕ) (def : TypeDef) (name : String Global) → type_at r n ≡ Some def → def.name ≡ Some name → met def.owner ≡ true
    → names (place_of r def.owner) (text_of name) ≡ is_resource r n

-- What stands in the scope of an owner: its place is the owner's, and each named type of the owner is declared there. The name of a type
-- of the owner, or of a named interface, stands for a resource exactly where the type is one. What has been declared can be followed.
pub record IsScopeOf (r : Resolve) (o : TypeOwner) (scope : Scope) : Type 0 where
  pub packages_ : scope.packages ≡ r
  pub place_ : scope.place ≡ place_of r o
  pub own : scope.own_interface ≡ interface_of_owner o
  pub declares : (n : ℕ) (def : TypeDef) (name : String Global) → type_at r n ≡ Some def → def.name ≡ Some name → def.owner ≡ o
      → Contains scope.declarations (text_of name, type_meaning r def)
  pub names : NamesAgree r scope.resources (is_met_owner r o)
  pub sound : scope.is_sound ≡ true

-- ---- what is met

-- n is met on the way down from one of the types: names of the place are opened, those of other interfaces aren't
abbrev pub IsMet : Resolve → Scope → List ValueType → ℕ → Type 0
IsMet r scope ts n = ReachedFrom r scope.own_interface ts n

-- the type is of a named interface whose instance stands
pub record IsOfInstance (r : Resolve) (scope : Scope) (def : TypeDef) : Type 0 where
  pub interface : InterfaceId
  pub owned : def.owner ≡ owner.Interface interface
  pub named_ : is_named_interface r def.owner ≡ true
  pub stands : Contains scope.instances interface.0

-- Each name that is met is of the place, or of a named interface whose instance stands.
abbrev pub NamesStand : Resolve → TypeOwner → Scope → List ValueType → Type 0
NamesStand r o scope ts = (n : ℕ) (def : TypeDef) → IsMet r scope ts n → type_at r n ≡ Some def → is_some def.name ≡ true → (def.owner ≡ o)
    ⊎ IsOfInstance r scope def

-- Of each other interface whose types are met, an instance stands.
abbrev pub InstancesStand : Resolve → Scope → List ValueType → Type 0
InstancesStand r scope ts = (n : ℕ) (def : TypeDef) (i : InterfaceId) → IsMet r scope ts n → type_at r n ≡ Some def
    → foreign_owner scope.own_interface def.owner ≡ Some i → Contains scope.instances i.0

-- ---- what an owner uses

-- a named type of the owner is an alias of a type of interface j, which is another one and has a name
pub record IsUsedBy (r : Resolve) (o : TypeOwner) (j : ℕ) : Type 0 where
  pub number : ℕ
  pub def : TypeDef
  pub there : type_at r number ≡ Some def
  pub named_ : is_some def.name ≡ true
  pub owned : def.owner ≡ o
  pub uses : is_use r def ≡ true
  pub interface : used_interface r def ≡ Some j

-- of each interface that the types of an owner use, an instance stands
abbrev pub UsesStand : Resolve → TypeOwner → Scope → Type 0
UsesStand r o scope = (j : ℕ) → IsUsedBy r o j → Contains scope.instances j

-- a named type of the owner
pub record IsTypeOf (r : Resolve) (o : TypeOwner) (id : TypeId) : Type 0 where
  pub def : TypeDef
  pub there : type_at r id.0 ≡ Some def
  pub named_ : is_some def.name ≡ true
  pub owned : def.owner ≡ o

-- the functions of an interface or a world
abbrev pub functions_of : Resolve → TypeOwner → List Function
functions_of r (owner.Interface i) = option_map_or functions_of_interface (interface_at r i.0) []
functions_of r (owner.World w) = option_map_or functions_of_world (world_at r w.0) []
functions_of r owner.None = []

-- ---- laws

-- Types can be encoded in the scope of an owner, where each name that is met is of the place, or of a named interface whose instance stands.
abbrev pub NamesEncode : Type 0
NamesEncode = (r : Resolve) (o : TypeOwner) (scope : Scope) (ts : List ValueType) → IsValid r → IsScopeOf r o scope → AllInRange r ts → NamesStand r o scope ts
    → CanEncode r scope ts

-- The named types of an owner can be encoded, where an instance stands of each other interface whose types are met.
abbrev pub TypesEncode : Type 0
TypesEncode = (r : Resolve) (o : TypeOwner) (scope : Scope) (id : TypeId) → IsValid r → IsScopeOf r o scope → IsTypeOf r o id
    → InstancesStand r scope (ty.Id id ∷ [])
    → CanEncode r scope (ty.Id id ∷ [])

-- The functions of an owner can be encoded, where an instance stands of each other interface whose types are met.
abbrev pub FunctionsEncode : Type 0
FunctionsEncode = (r : Resolve) (o : TypeOwner) (scope : Scope) (f : Function) → IsValid r → IsScopeOf r o scope → Contains (functions_of r o) f
    → InstancesStand r scope (function_types f) → CanEncodeFunction r scope f

-- The types of an owner meet no other interfaces than those that it uses.
abbrev pub TypesUse : Type 0
TypesUse = (r : Resolve) (o : TypeOwner) (scope : Scope) (id : TypeId) → IsValid r → IsScopeOf r o scope → IsTypeOf r o id → UsesStand r o scope
    → InstancesStand r scope (ty.Id id ∷ [])

-- The functions of an owner meet no other interfaces than those that it uses.
abbrev pub FunctionsUse : Type 0
FunctionsUse = (r : Resolve) (o : TypeOwner) (scope : Scope) (f : Function) → IsValid r → IsScopeOf r o scope → Contains (functions_of r o) f
    → UsesStand r o scope
    → InstancesStand r scope (function_types f)

-- An interface that the types of an interface use is one of its direct dependencies.
abbrev pub InterfaceUses : Type 0
InterfaceUses = (r : Resolve) (i : InterfaceId) (j : ℕ) → IsValid r → i.0 < length r.interfaces.items → IsUsedBy r (owner.Interface i) j
    → Contains (direct_deps r i.0) j

-- The scope of a table is that of its owner.
abbrev pub TableScope : Type 0
TableScope = (r : Resolve) (o : TypeOwner) → IsValid r → IsScopeOf r o (table_scope r o)

-- In it an instance stands of each interface that the types of the owner use.
abbrev pub TableUsesStand : Type 0
TableUsesStand = (r : Resolve) (o : TypeOwner) → IsValid r → UsesStand r o (table_scope r o)
