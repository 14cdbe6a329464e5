-- The scope of an encoder over one table of slots: of the types of an interface or a world, with the instances of all interfaces.
use Rattle.std.specs.Prelude.{◌≡◌, Bool, true, false, ◌||◌, ◌&&◌, cond, ℕ, List, [], ◌∷◌, length, flat_map, Option, Some, None, String, is_some, is_none}
use Rattle.std.specs.{List.Contains, Option.option_map_or}
use Rattle.std.specs.declared.alloc.Global.{Global}
use Rattle.wit_model.specs.{Text.Text, Text.text_of, Meaning.TypeMeaning, Lookup.place_of, Lookup.interface_at, Lookup.type_at, Uses.owner_interface, Meant.type_meaning, Parts.same_owner, Valid.IsValid}
use Rattle.wit_model.specs.declared.model.{Resolve.Resolve, TypeDef.TypeDef, InterfaceId.InterfaceId, «Type».«Type» as ValueType, TypeOwner.TypeOwner}
use Rattle.wit_model.specs.declared.model.TypeId.{TypeId}
use Rattle.encode_types.specs.{Kinds.has_definition, Plan.foreign_owner, MetKinds.ReachedFrom, Resources.resource_names}
use Rattle.wit_model.specs.declared.model.«Type».TheVariants as ty
use Rattle.wit_model.specs.declared.model.TypeOwner.TheVariants as owner
pub use Rattle.encode_types.specs.Resources.{is_met_owner}
pub use Rattle.encode_types.specs.Known.{below}
use Rattle.encode_types.specs.{Scope.Scope, Scope.no_others, View.View, View.Agrees}

-- the declaration of a type under its name, if it has one
abbrev pub named_declaration : Resolve → Option (String Global) → TypeDef → List (Text × TypeMeaning)
named_declaration r None def = []
named_declaration r (Some name) def = (text_of name, type_meaning r def) ∷ []

-- the declaration of a named type that this owner has
abbrev pub declaration_in : Resolve → TypeOwner → TypeDef → List (Text × TypeMeaning)
declaration_in r o def = cond (same_owner o def.owner) (named_declaration r def.name def) []

-- the interface that an owner is, if it is one
abbrev pub interface_of_owner : TypeOwner → Option InterfaceId
interface_of_owner (owner.Interface i) = Some i
interface_of_owner _ = None

-- whether a type belongs to an interface that has a name
abbrev pub has_named_owner : Resolve → TypeDef → Bool
has_named_owner r def = option_map_or (λ i. option_map_or (λ other. is_some other.name) (interface_at r i) false) (owner_interface def.owner) false

-- the scope of an owner: its named types, and an instance of each interface
abbrev pub table_scope : Resolve → TypeOwner → Scope
table_scope r o = record {
  packages = r;
  place = place_of r o;
  declarations = flat_map (declaration_in r o) r.types.items;
  own_interface = interface_of_owner o;
  instances = below (length r.interfaces.items);
  resources = resource_names r (is_met_owner r o);
  functions = [];
  is_sound = true;
  others = no_others;
}

-- whether a type may be met from the types of an owner: an unnamed one, one of the owner, and one of another interface, which has a name
abbrev pub is_met_by : Resolve → TypeOwner → TypeDef → Bool
is_met_by r o def = is_none def.name || (same_owner def.owner o || (is_some (foreign_owner (interface_of_owner o) def.owner) && has_named_owner r def))

-- each type that these meet on the way down may be met from the types of the owner
abbrev pub AllMetBy : Resolve → TypeOwner → List ValueType → Type 0
AllMetBy r o ts = (n : ℕ) (def : TypeDef) → ReachedFrom r (interface_of_owner o) ts n → type_at r n ≡ Some def → is_met_by r o def ≡ true

-- a type with a definition of its own: no resource, and no alias of a number
abbrev pub IsDefined : Resolve → ValueType → Type 0
IsDefined r t = (id : TypeId) → t ≡ ty.Id id → (def : TypeDef) → type_at r id.0 ≡ Some def → has_definition def.kind ≡ true

abbrev pub AllDefined : Resolve → List ValueType → Type 0
AllDefined r ts = (t : ValueType) → Contains ts t → IsDefined r t

-- an encoder of an interface of valid packages over one table, whose maps agree with its slots
pub record IsTableOf (r : Resolve) (own : InterfaceId) (v : View) : Type 0 where
  pub valid : IsValid r
  pub scope_ : v.scope ≡ table_scope r (owner.Interface own)
  pub agree : Agrees r v
