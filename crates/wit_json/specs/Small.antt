-- Each number of a `Resolve` is one that the code can hold.
use Rattle.std.specs.Prelude.{◌≡◌, ℕ, ◌<◌, ◌^◌, Option, Some, None, ⊤}
use Rattle.std.specs.List.{AllByRecursion}
use Rattle.indexmap.specs.IndexMap.{values}
use Rattle.wit_model.specs.declared.model.{Resolve.Resolve, PackageId.PackageId, TypeDefKind.TypeDefKind, «Type».«Type» as ValueType, FunctionKind.FunctionKind}
use Rattle.wit_model.specs.declared.model.{Package.Package, Interface.Interface, WorldItem.WorldItem, TypeDef.TypeDef, TypeOwner.TypeOwner, Function.Function}
use Rattle.wit_model.specs.declared.model.{World.World, Handle.Handle}
use Rattle.wit_model.specs.{Text.Text, Valid.IsValid}
use Rattle.wit_json.specs.{Listed.member, Listed.number_token, Listed.tokens_of, Listed.whole_listing, Spelled.Spells, Bare.bare}
use Rattle.wit_model.specs.declared.model.WorldItem.TheVariants as item
use Rattle.wit_model.specs.declared.model.TypeDefKind.TheVariants as kind
use Rattle.wit_model.specs.declared.model.TypeOwner.TheVariants as owner
use Rattle.wit_model.specs.declared.model.«Type».TheVariants as ty
use Rattle.wit_model.specs.declared.model.Handle.TheVariants as handle
use Rattle.wit_model.specs.declared.model.FunctionKind.TheVariants as call

-- a number of 32 bits
abbrev pub IsSmall : ℕ → Type 0
IsSmall n = n < 2 ^ 32

-- a type whose number is small
abbrev pub IsSmallType : Option ValueType → Type 0
IsSmallType (Some (ty.Id id)) = IsSmall id.0
IsSmallType _ = ⊤

-- the resource of a handle
abbrev pub IsSmallHandle : Handle → Type 0
IsSmallHandle (handle.Own id) = IsSmall id.0
IsSmallHandle (handle.Borrow id) = IsSmall id.0

-- the numbers of a kind
abbrev pub IsSmallKind : TypeDefKind → Type 0
IsSmallKind (kind.Record record_) = AllByRecursion (λ f. IsSmallType (Some f.ty)) record_.fields.items
IsSmallKind kind.Resource = ⊤
IsSmallKind (kind.Handle h) = IsSmallHandle h
IsSmallKind (kind.Flags flags) = ⊤
IsSmallKind (kind.Tuple tuple) = AllByRecursion (λ t. IsSmallType (Some t)) tuple.types.items
IsSmallKind (kind.Variant variant) = AllByRecursion (λ c. IsSmallType c.ty) variant.cases.items
IsSmallKind (kind.Enum enum) = ⊤
IsSmallKind (kind.Option t) = IsSmallType (Some t)
IsSmallKind (kind.Result result) = IsSmallType result.ok × IsSmallType result.err
IsSmallKind (kind.List t) = IsSmallType (Some t)
IsSmallKind (kind.Map k v) = IsSmallType (Some k) × IsSmallType (Some v)
IsSmallKind (kind.FixedLengthList t n) = IsSmallType (Some t) × IsSmall n
IsSmallKind (kind.Future t) = IsSmallType t
IsSmallKind (kind.Stream t) = IsSmallType t
IsSmallKind (kind.Type_ t) = IsSmallType (Some t)

-- the number of an owner
abbrev pub IsSmallOwner : TypeOwner → Type 0
IsSmallOwner (owner.World id) = IsSmall id.0
IsSmallOwner (owner.Interface id) = IsSmall id.0
IsSmallOwner owner.None = ⊤

-- the number of a home
abbrev pub IsSmallHome : Option PackageId → Type 0
IsSmallHome None = ⊤
IsSmallHome (Some id) = IsSmall id.0

-- the resource of a function
abbrev pub IsSmallFunctionKind : FunctionKind → Type 0
IsSmallFunctionKind call.Freestanding = ⊤
IsSmallFunctionKind call.AsyncFreestanding = ⊤
IsSmallFunctionKind (call.Method id) = IsSmall id.0
IsSmallFunctionKind (call.AsyncMethod id) = IsSmall id.0
IsSmallFunctionKind (call.Static id) = IsSmall id.0
IsSmallFunctionKind (call.AsyncStatic id) = IsSmall id.0
IsSmallFunctionKind (call.Constructor id) = IsSmall id.0

-- the numbers of a type
abbrev pub HasSmallType : TypeDef → Type 0
HasSmallType def = IsSmallKind def.kind × IsSmallOwner def.owner

-- the numbers of a function
pub record HasSmallFunction (f : Function) : Type 0 where
  pub kind : IsSmallFunctionKind f.kind
  pub params : AllByRecursion (λ p. IsSmallType (Some p.ty)) f.params.items
  pub result : IsSmallType f.result

-- the numbers of an interface
pub record HasSmallInterface (i : Interface) : Type 0 where
  pub home : IsSmallHome i.package
  pub types : AllByRecursion (λ id. IsSmall id.0) (values i.types)
  pub functions : AllByRecursion HasSmallFunction (values i.functions)

-- the numbers of an import or an export
abbrev pub HasSmallItem : WorldItem → Type 0
HasSmallItem (item.Interface id stability docs external_id) = IsSmall id.0
HasSmallItem (item.Function f) = HasSmallFunction f
HasSmallItem (item.Type_ id) = IsSmall id.0

-- the numbers of a world
pub record HasSmallWorld (w : World) : Type 0 where
  pub home : IsSmallHome w.package
  pub imports : AllByRecursion (λ e. HasSmallItem e.1) w.imports.entries
  pub exports : AllByRecursion (λ e. HasSmallItem e.1) w.exports.entries

-- the numbers of a package
pub record HasSmallPackage (p : Package) : Type 0 where
  pub interfaces : AllByRecursion (λ id. IsSmall id.0) (values p.interfaces)
  pub worlds : AllByRecursion (λ id. IsSmall id.0) (values p.worlds)

-- Each number is one of 32 bits, as it is in whatever the code can hold.
pub record HasSmallNumbers (r : Resolve) : Type 0 where
  pub packages : AllByRecursion HasSmallPackage r.packages.items
  pub worlds : AllByRecursion HasSmallWorld r.worlds.items
  pub interfaces : AllByRecursion HasSmallInterface r.interfaces.items
  pub types : AllByRecursion HasSmallType r.types.items

-- Where two listings are of the same tokens, the two are the same by `bare`.
abbrev pub NothingElseIsLost : Type 0
NothingElseIsLost = (r s : Resolve) → HasSmallNumbers r → HasSmallNumbers s → tokens_of r ≡ tokens_of s → bare r ≡ bare s

-- A text is the listing of what one `Resolve` says, and of one entry of it.
abbrev pub TextsTell : Type 0
TextsTell = (text subject : Text) (r s : Resolve) (n m : ℕ) → HasSmallNumbers r → HasSmallNumbers s → IsSmall n → IsSmall m
    → Spells text (whole_listing r (member subject (number_token n))) → Spells text (whole_listing s (member subject (number_token m)))
    → (bare r ≡ bare s) × (n ≡ m)

-- The numbers of a valid `Resolve` are of 32 bits.
abbrev pub ValidAreSmall : Type 0
ValidAreSmall = (r : Resolve) → IsValid r → HasSmallNumbers r
