-- What a `Resolve` says without documentation and stability: four lists, each entry with its names, its numbers and its parts in order.
-- An entry that belongs to another stands there by its number, and an import or an export under its label or its path. The keys of other maps are left
-- out: in a valid `Resolve` the key of an entry is its name (`Keys`).
use Rattle.std.specs.Prelude.{ℕ, List, [], ◌∷◌, map, codes, Option, Some, None}
use Rattle.indexmap.specs.IndexMap.{values}
use Rattle.wit_model.specs.declared.model.{Resolve.Resolve, PackageId.PackageId, TypeDefKind.TypeDefKind, «Type».«Type» as ValueType, FunctionKind.FunctionKind}
use Rattle.wit_model.specs.declared.model.{Package.Package, Interface.Interface, WorldKey.WorldKey, WorldItem.WorldItem, TypeOwner.TypeOwner, Function.Function}
use Rattle.wit_model.specs.declared.model.{World.World, TypeDef.TypeDef, Handle.Handle}
use Rattle.wit_model.specs.{Text.Text, Text.text_of, Text.optional_text, Names.PackageIdentity, Lookup.identity_of, Lookup.key_text}
use Rattle.wit_model.specs.declared.model.WorldItem.TheVariants as item
use Rattle.wit_model.specs.declared.model.TypeDefKind.TheVariants as kind
use Rattle.wit_model.specs.declared.model.Handle.TheVariants as handle

-- What a type is: its word; its fields, flags or cases with their types; the types that it is made of; and the number of a resource, or a length.
pub record BareKind : Type 0 where
  pub word : Text
  pub members : List (Text × Option ValueType)
  pub types : List (Option ValueType)
  pub numbers : List ℕ

-- what has members alone
abbrev pub with_members : Text → List (Text × Option ValueType) → BareKind
with_members word members = record { word = word; members = members; types = []; numbers = [] }

-- what is made of types alone
abbrev pub with_types : Text → List (Option ValueType) → BareKind
with_types word types = record { word = word; members = []; types = types; numbers = [] }

-- a handle
abbrev pub bare_handle : Handle → BareKind
bare_handle (handle.Own id) = record { word = codes "own"; members = []; types = []; numbers = id.0 ∷ [] }
bare_handle (handle.Borrow id) = record { word = codes "borrow"; members = []; types = []; numbers = id.0 ∷ [] }

-- what a type is, without documentation
unfoldable pub bare_kind : TypeDefKind → BareKind
bare_kind (kind.Record record_) = with_members (codes "record") (map (λ f. (text_of f.name, Some f.ty)) record_.fields.items)
bare_kind kind.Resource = with_members (codes "resource") []
bare_kind (kind.Handle h) = bare_handle h
bare_kind (kind.Flags flags) = with_members (codes "flags") (map (λ f. (text_of f.name, None)) flags.flags.items)
bare_kind (kind.Tuple tuple) = with_types (codes "tuple") (map (λ t. Some t) tuple.types.items)
bare_kind (kind.Variant variant) = with_members (codes "variant") (map (λ c. (text_of c.name, c.ty)) variant.cases.items)
bare_kind (kind.Enum enum) = with_members (codes "enum") (map (λ c. (text_of c.name, None)) enum.cases.items)
bare_kind (kind.Option t) = with_types (codes "option") (Some t ∷ [])
bare_kind (kind.Result result) = with_types (codes "result") (result.ok ∷ result.err ∷ [])
bare_kind (kind.List t) = with_types (codes "list") (Some t ∷ [])
bare_kind (kind.Map k v) = with_types (codes "map") (Some k ∷ Some v ∷ [])
bare_kind (kind.FixedLengthList t n) = record { word = codes "fixed-length-list"; members = []; types = Some t ∷ []; numbers = n ∷ [] }
bare_kind (kind.Future t) = with_types (codes "future") (t ∷ [])
bare_kind (kind.Stream t) = with_types (codes "stream") (t ∷ [])
bare_kind (kind.Type_ t) = with_types (codes "type") (Some t ∷ [])

-- an entry of the list of types
pub record BareType : Type 0 where
  pub name : Option Text
  pub kind : BareKind
  pub owner : TypeOwner
  pub external_id : Option Text

-- what a type of the list of types says
abbrev pub bare_type : TypeDef → BareType
bare_type def = record { name = optional_text def.name; kind = bare_kind def.kind; owner = def.owner; external_id = optional_text def.external_id }

-- a function
pub record BareFunction : Type 0 where
  pub name : Text
  pub kind : FunctionKind
  pub params : List (Text × Option ValueType)
  pub result : Option ValueType
  pub external_id : Option Text

-- what a function says
abbrev pub bare_function : Function → BareFunction
bare_function f = record {
  name = text_of f.name;
  kind = f.kind;
  params = map (λ p. (text_of p.name, Some p.ty)) f.params.items;
  result = f.result;
  external_id = optional_text f.external_id;
}

-- an entry of the list of interfaces
pub record BareInterface : Type 0 where
  pub name : Option Text
  pub home : Option PackageId
  pub types : List ℕ
  pub functions : List BareFunction

-- what an interface says
abbrev pub bare_interface : Interface → BareInterface
bare_interface i = record {
  name = optional_text i.name;
  home = i.package;
  types = map (λ id. id.0) (values i.types);
  functions = map bare_function (values i.functions);
}

-- an import or an export
pub data BareItem : Type 0 where
  interface : ℕ → Option Text → BareItem
  function : BareFunction → BareItem
  type_ : ℕ → BareItem

-- what an import or an export says without its key
abbrev pub bare_item : WorldItem → BareItem
bare_item (item.Interface id stability docs external_id) = interface id.0 (optional_text external_id)
bare_item (item.Function f) = function (bare_function f)
bare_item (item.Type_ id) = type_ id.0

-- an import or an export under its label or its path
abbrev pub bare_entry : Resolve → WorldKey × WorldItem → Text × BareItem
bare_entry r e = (key_text r e.0, bare_item e.1)

-- an entry of the list of worlds
pub record BareWorld : Type 0 where
  pub name : Text
  pub home : Option PackageId
  pub imports : List (Text × BareItem)
  pub exports : List (Text × BareItem)

-- what a world says
abbrev pub bare_world : Resolve → World → BareWorld
bare_world r w = record {
  name = text_of w.name;
  home = w.package;
  imports = map (bare_entry r) w.imports.entries;
  exports = map (bare_entry r) w.exports.entries;
}

-- an entry of the list of packages
pub record BarePackage : Type 0 where
  pub identity : PackageIdentity
  pub interfaces : List ℕ
  pub worlds : List ℕ

-- what a package says
abbrev pub bare_package : Package → BarePackage
bare_package p = record {
  identity = identity_of p.name;
  interfaces = map (λ id. id.0) (values p.interfaces);
  worlds = map (λ id. id.0) (values p.worlds);
}

-- What a `Resolve` says.
pub record BareResolve : Type 0 where
  pub packages : List BarePackage
  pub worlds : List BareWorld
  pub interfaces : List BareInterface
  pub types : List BareType

-- what a `Resolve` says
abbrev pub bare : Resolve → BareResolve
bare r = record {
  packages = map bare_package r.packages.items;
  worlds = map (bare_world r) r.worlds.items;
  interfaces = map bare_interface r.interfaces.items;
  types = map bare_type r.types.items;
}
