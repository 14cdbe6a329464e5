-- When what two `Resolve`s hold differs in documentation alone.
use Rattle.std.specs.{Prelude.◌≡◌, Prelude.Option, Prelude.String, List.AllZip}
use Rattle.std.specs.declared.alloc.Global.{Global}
use Rattle.semver.specs.declared.Version.{Version}
use Rattle.semver.specs.Identifiers.{version_text}
use Rattle.wit_model.specs.declared.model.{Resolve.Resolve, Package.Package, WorldItem.WorldItem, Function.Function, EnumCase.EnumCase, Stability.Stability}
use Rattle.wit_model.specs.declared.model.{Interface.Interface, InterfaceId.InterfaceId, WorldKey.WorldKey, TypeDefKind.TypeDefKind, «Type».«Type» as ValueType}
use Rattle.wit_model.specs.declared.model.{World.World, TypeDef.TypeDef, TypeId.TypeId, Handle.Handle, Record.Record, Variant.Variant, Result_.Result_}
use Rattle.wit_model.specs.declared.model.{Flags.Flags, Enum.Enum, Tuple.Tuple, Param.Param, Field.Field, Case.Case, Flag.Flag, Docs.Docs}
use Rattle.wit_model.specs.{Text.text_of, Text.optional_text, Lookup.optional_version_text}
use Rattle.wit_model.specs.declared.model.WorldKey.TheVariants as key
use Rattle.wit_model.specs.declared.model.WorldItem.TheVariants as item
use Rattle.wit_model.specs.declared.model.TypeDefKind.TheVariants as defined
use Rattle.wit_model.specs.declared.model.Stability.TheVariants as stability

-- feature gates with the same texts
pub data AlikeGates : Stability → Stability → Type 0 where
  unknown : AlikeGates stability.Unknown stability.Unknown
  stable : {s t : Version} {d e : Option Version} → version_text s ≡ version_text t → optional_version_text d ≡ optional_version_text e
      → AlikeGates (stability.Stable s d) (stability.Stable t e)
  unstable : {s t : String Global} {d e : Option Version} → text_of s ≡ text_of t → optional_version_text d ≡ optional_version_text e
      → AlikeGates (stability.Unstable s d) (stability.Unstable t e)

-- parameters with the same name and type
pub record AlikeParams (a b : Param) : Type 0 where
  pub name : text_of a.name ≡ text_of b.name
  pub ty : a.ty ≡ b.ty

-- fields with the same name and type
pub record AlikeFields (a b : Field) : Type 0 where
  pub name : text_of a.name ≡ text_of b.name
  pub ty : a.ty ≡ b.ty

-- cases of variants with the same name and type
pub record AlikeCases (a b : Case) : Type 0 where
  pub name : text_of a.name ≡ text_of b.name
  pub ty : a.ty ≡ b.ty

-- flags with the same name
abbrev pub AlikeFlags : Flag → Flag → Type 0
AlikeFlags a b = text_of a.name ≡ text_of b.name

-- cases of enums with the same name
abbrev pub AlikeEnumCases : EnumCase → EnumCase → Type 0
AlikeEnumCases a b = text_of a.name ≡ text_of b.name

-- kinds whose parts are alike
pub data AlikeKinds : TypeDefKind → TypeDefKind → Type 0 where
  records : {a b : Record} → AllZip AlikeFields a.fields.items b.fields.items → AlikeKinds (defined.Record a) (defined.Record b)
  resources : AlikeKinds defined.Resource defined.Resource
  handles : {h : Handle} → AlikeKinds (defined.Handle h) (defined.Handle h)
  flags : {a b : Flags} → AllZip AlikeFlags a.flags.items b.flags.items → AlikeKinds (defined.Flags a) (defined.Flags b)
  tuples : {a b : Tuple} → a.types.items ≡ b.types.items → AlikeKinds (defined.Tuple a) (defined.Tuple b)
  variants : {a b : Variant} → AllZip AlikeCases a.cases.items b.cases.items → AlikeKinds (defined.Variant a) (defined.Variant b)
  enums : {a b : Enum} → AllZip AlikeEnumCases a.cases.items b.cases.items → AlikeKinds (defined.Enum a) (defined.Enum b)
  options : {t : ValueType} → AlikeKinds (defined.Option t) (defined.Option t)
  results : {a b : Result_} → a.ok ≡ b.ok → a.err ≡ b.err → AlikeKinds (defined.Result a) (defined.Result b)
  lists : {t : ValueType} → AlikeKinds (defined.List t) (defined.List t)
  maps : {k v : ValueType} → AlikeKinds (defined.Map k v) (defined.Map k v)
  fixed_lists : {t : ValueType} {n : _} → AlikeKinds (defined.FixedLengthList t n) (defined.FixedLengthList t n)
  futures : {t : Option ValueType} → AlikeKinds (defined.Future t) (defined.Future t)
  streams : {t : Option ValueType} → AlikeKinds (defined.Stream t) (defined.Stream t)
  aliases : {t : ValueType} → AlikeKinds (defined.Type_ t) (defined.Type_ t)

-- types with the same name, owner, gates and external id, whose kinds are alike
pub record AlikeTypes (a b : TypeDef) : Type 0 where
  pub name : optional_text a.name ≡ optional_text b.name
  pub kind : AlikeKinds a.kind b.kind
  pub owner : a.owner ≡ b.owner
  pub gates : AlikeGates a.stability b.stability
  pub external_id : optional_text a.external_id ≡ optional_text b.external_id

-- functions with the same name, kind, result, gates and external id, whose parameters are alike
pub record AlikeFunctions (a b : Function) : Type 0 where
  pub name : text_of a.name ≡ text_of b.name
  pub kind : a.kind ≡ b.kind
  pub params : AllZip AlikeParams a.params.items b.params.items
  pub result : a.result ≡ b.result
  pub gates : AlikeGates a.stability b.stability
  pub external_id : optional_text a.external_id ≡ optional_text b.external_id

-- names with the same numbers under them
abbrev pub AlikeEntries : {X : Type 0} → String Global × X → String Global × X → Type 0
AlikeEntries a b = (text_of a.0 ≡ text_of b.0) × (a.1 ≡ b.1)

-- interfaces with the same name, package, gates and types under the same names, whose functions are alike
pub record AlikeInterfaces (a b : Interface) : Type 0 where
  pub name : optional_text a.name ≡ optional_text b.name
  pub types : AllZip AlikeEntries a.types.entries b.types.entries
  pub functions : AllZip (λ d e. (text_of d.0 ≡ text_of e.0) × AlikeFunctions d.1 e.1) a.functions.entries b.functions.entries
  pub gates : AlikeGates a.stability b.stability
  pub in_package : a.«package» ≡ b.«package»

-- the same label, or the same interface
pub data AlikeKeys : WorldKey → WorldKey → Type 0 where
  labels : {s t : String Global} → text_of s ≡ text_of t → AlikeKeys (key.Name s) (key.Name t)
  interfaces : {id : InterfaceId} → AlikeKeys (key.Interface id) (key.Interface id)

-- the same interface under gates and an external id that are the same, functions that are alike, or the same type
pub data AlikeItems : WorldItem → WorldItem → Type 0 where
  interface_items : {id : InterfaceId} {s t : Stability} {c d : Docs} {x y : Option (String Global)} → AlikeGates s t → optional_text x ≡ optional_text y
      → AlikeItems (item.Interface id s c x) (item.Interface id t d y)
  function_items : {f g : Function} → AlikeFunctions f g → AlikeItems (item.Function f) (item.Function g)
  type_items : {id : TypeId} → AlikeItems (item.Type_ id) (item.Type_ id)

-- imports, or exports, whose keys and items are alike
abbrev pub AlikeWorldEntries : WorldKey × WorldItem → WorldKey × WorldItem → Type 0
AlikeWorldEntries a b = AlikeKeys a.0 b.0 × AlikeItems a.1 b.1

-- worlds with the same name, package and gates, whose imports and exports are alike
pub record AlikeWorlds (a b : World) : Type 0 where
  pub name : text_of a.name ≡ text_of b.name
  pub imports : AllZip AlikeWorldEntries a.imports.entries b.imports.entries
  pub exports : AllZip AlikeWorldEntries a.exports.entries b.exports.entries
  pub gates : AlikeGates a.stability b.stability
  pub in_package : a.«package» ≡ b.«package»

-- packages with the same name and version, and the same interfaces and worlds under the same names
pub record AlikePackages (a b : Package) : Type 0 where
  pub namespace : text_of a.name.namespace ≡ text_of b.name.namespace
  pub name : text_of a.name.name ≡ text_of b.name.name
  pub version : optional_version_text a.name.version ≡ optional_version_text b.name.version
  pub interfaces : AllZip AlikeEntries a.interfaces.entries b.interfaces.entries
  pub worlds : AllZip AlikeEntries a.worlds.entries b.worlds.entries

-- The texts, numbers and kinds are the same. Of documentation nothing is said.
pub record DifferInDocumentation (a b : Resolve) : Type 0 where
  pub packages : AllZip AlikePackages a.packages.items b.packages.items
  pub interfaces : AllZip AlikeInterfaces a.interfaces.items b.interfaces.items
  pub worlds : AllZip AlikeWorlds a.worlds.items b.worlds.items
  pub types : AllZip AlikeTypes a.types.items b.types.items
