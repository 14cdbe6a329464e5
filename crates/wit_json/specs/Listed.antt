-- The listing of a `Resolve`: four lists, each entry named by its number, as tokens of JSON. Documentation and stability are left out.
-- What has an order is a list. Each member is written, with null where there is nothing.
use Rattle.std.specs.Prelude.{ℕ, List, [], ◌∷◌, ◌++◌, flat_map, codes, decimal, Option, Some, None, option_map}
use Rattle.indexmap.specs.IndexMap.{values}
use Rattle.json.specs.Token.{Token, begin_object, end_object, begin_array, end_array, key, string, number, null}
use Rattle.wit_model.specs.declared.model.{Resolve.Resolve, Package.Package, TypeDef.TypeDef, Function.Function, Param.Param, Result_.Result_}
use Rattle.wit_model.specs.declared.model.{PackageName.PackageName, World.World, TypeDefKind.TypeDefKind, «Type».«Type» as ValueType, FunctionKind.FunctionKind}
use Rattle.wit_model.specs.declared.model.{PackageId.PackageId, Interface.Interface, WorldKey.WorldKey, WorldItem.WorldItem, TypeOwner.TypeOwner, Handle.Handle}
use Rattle.wit_model.specs.{Text.Text, Text.text_of, Text.optional_text, Lookup.key_text, Lookup.optional_version_text}
use Rattle.wit_model.specs.declared.model.WorldItem.TheVariants as item
use Rattle.wit_model.specs.declared.model.TypeDefKind.TheVariants as kind
use Rattle.wit_model.specs.declared.model.TypeOwner.TheVariants as owner
use Rattle.wit_model.specs.declared.model.«Type».TheVariants as ty
use Rattle.wit_model.specs.declared.model.Handle.TheVariants as handle
use Rattle.wit_model.specs.declared.model.FunctionKind.TheVariants as call

-- ---- values and members

-- a member whose value is one token
abbrev pub member : Text → Token → List Token
member name value = key name ∷ value ∷ []

-- a text, or null
abbrev pub text_or_null : Option Text → Token
text_or_null None = null
text_or_null (Some text) = string text

-- a number, in decimal
abbrev pub number_token : ℕ → Token
number_token n = number (decimal n)

-- a number, or null
abbrev pub number_or_null : Option ℕ → Token
number_or_null None = null
number_or_null (Some n) = number_token n

-- a list: what each entry is, in order
abbrev pub listed : {A : Type 0} → (A → List Token) → List A → List Token
listed each xs = begin_array ∷ (flat_map each xs ++ end_array ∷ [])

-- a number as the whole of an entry
abbrev pub number_entry : ℕ → List Token
number_entry n = number_token n ∷ []

-- ---- types

-- A type that is used: a primitive by its word, and another by its number.
unfoldable pub type_token : ValueType → Token
type_token ty.Bool = string (codes "bool")
type_token ty.U8 = string (codes "u8")
type_token ty.U16 = string (codes "u16")
type_token ty.U32 = string (codes "u32")
type_token ty.U64 = string (codes "u64")
type_token ty.S8 = string (codes "s8")
type_token ty.S16 = string (codes "s16")
type_token ty.S32 = string (codes "s32")
type_token ty.S64 = string (codes "s64")
type_token ty.F32 = string (codes "f32")
type_token ty.F64 = string (codes "f64")
type_token ty.Char = string (codes "char")
type_token ty.String = string (codes "string")
type_token ty.ErrorContext = string (codes "error-context")
type_token (ty.Id id) = number_token id.0

-- a type that is used, or null
abbrev pub type_or_null : Option ValueType → Token
type_or_null None = null
type_or_null (Some t) = type_token t

-- an object of one member
abbrev pub only : Text → Token → List Token
only name value = begin_object ∷ key name ∷ value ∷ end_object ∷ []

-- an object of a name
abbrev pub name_object : Text → List Token
name_object name = only (codes "name") (string name)

-- an object of a name and a type, which a case may lack
abbrev pub typed_object : Text → Option ValueType → List Token
typed_object name t = begin_object ∷ key (codes "name") ∷ string name ∷ key (codes "type") ∷ type_or_null t ∷ end_object ∷ []

-- how a list begins that is the one member of an object, which is the one member of another
abbrev pub list_begun : Text → Text → List Token
list_begun outer inner = begin_object ∷ key outer ∷ begin_object ∷ key inner ∷ begin_array ∷ []

-- how such a list ends
abbrev pub list_ended : List Token
list_ended = end_array ∷ end_object ∷ end_object ∷ []

-- a list that is the one member of an object, which is the one member of another
abbrev pub list_within : {A : Type 0} → Text → Text → (A → List Token) → List A → List Token
list_within outer inner each xs = list_begun outer inner ++ (flat_map each xs ++ list_ended)

-- an object whose one member is this
abbrev pub within : Text → List Token → List Token
within name ts = begin_object ∷ key name ∷ (ts ++ end_object ∷ [])

-- a handle: owned or borrowed, and the resource
abbrev pub handle_object : Handle → List Token
handle_object (handle.Own id) = only (codes "own") (number_token id.0)
handle_object (handle.Borrow id) = only (codes "borrow") (number_token id.0)

-- both sides of a result
abbrev pub sides_object : Result_ → List Token
sides_object result = begin_object ∷ key (codes "ok") ∷ type_or_null result.ok ∷ key (codes "err") ∷ type_or_null result.err ∷ end_object ∷ []

-- two tokens under a name
abbrev pub pair_object : Text → Token → Token → List Token
pair_object name a b = begin_object ∷ key name ∷ begin_array ∷ a ∷ b ∷ end_array ∷ end_object ∷ []

-- what a type is
unfoldable pub kind_tokens : TypeDefKind → List Token
kind_tokens (kind.Record record_) = list_within (codes "record") (codes "fields") (λ f. typed_object (text_of f.name) (Some f.ty)) record_.fields.items
kind_tokens kind.Resource = string (codes "resource") ∷ []
kind_tokens (kind.Handle h) = within (codes "handle") (handle_object h)
kind_tokens (kind.Flags flags) = list_within (codes "flags") (codes "flags") (λ f. name_object (text_of f.name)) flags.flags.items
kind_tokens (kind.Tuple tuple) = list_within (codes "tuple") (codes "types") (λ t. type_token t ∷ []) tuple.types.items
kind_tokens (kind.Variant variant) = list_within (codes "variant") (codes "cases") (λ c. typed_object (text_of c.name) c.ty) variant.cases.items
kind_tokens (kind.Enum enum) = list_within (codes "enum") (codes "cases") (λ c. name_object (text_of c.name)) enum.cases.items
kind_tokens (kind.Option t) = only (codes "option") (type_token t)
kind_tokens (kind.Result result) = within (codes "result") (sides_object result)
kind_tokens (kind.List t) = only (codes "list") (type_token t)
kind_tokens (kind.Map k v) = pair_object (codes "map") (type_token k) (type_token v)
kind_tokens (kind.FixedLengthList t n) = pair_object (codes "fixed-length-list") (type_token t) (number_token n)
kind_tokens (kind.Future t) = only (codes "future") (type_or_null t)
kind_tokens (kind.Stream t) = only (codes "stream") (type_or_null t)
kind_tokens (kind.Type_ t) = only (codes "type") (type_token t)

-- where a type is declared
unfoldable pub owner_tokens : TypeOwner → List Token
owner_tokens (owner.World id) = only (codes "world") (number_token id.0)
owner_tokens (owner.Interface id) = only (codes "interface") (number_token id.0)
owner_tokens owner.None = null ∷ []

-- an external id, or null
abbrev pub external_member : Option Text → List Token
external_member id = member (codes "external-id") (text_or_null id)

-- an entry of the list of types
unfoldable pub type_tokens : TypeDef → List Token
type_tokens def =
    begin_object ∷ (member (codes "name") (text_or_null (optional_text def.name))
    ++ (key (codes "kind") ∷ (kind_tokens def.kind
    ++ (key (codes "owner") ∷ (owner_tokens def.owner
    ++ (external_member (optional_text def.external_id) ++ end_object ∷ []))))))

-- ---- functions and interfaces

-- what a function is called on
unfoldable pub function_kind_tokens : FunctionKind → List Token
function_kind_tokens call.Freestanding = string (codes "freestanding") ∷ []
function_kind_tokens call.AsyncFreestanding = string (codes "async-freestanding") ∷ []
function_kind_tokens (call.Method id) = only (codes "method") (number_token id.0)
function_kind_tokens (call.AsyncMethod id) = only (codes "async-method") (number_token id.0)
function_kind_tokens (call.Static id) = only (codes "static") (number_token id.0)
function_kind_tokens (call.AsyncStatic id) = only (codes "async-static") (number_token id.0)
function_kind_tokens (call.Constructor id) = only (codes "constructor") (number_token id.0)

-- a parameter
abbrev pub param_tokens : Param → List Token
param_tokens p = typed_object (text_of p.name) (Some p.ty)

-- a function, with its parameters in order
unfoldable pub function_tokens : Function → List Token
function_tokens f =
    begin_object ∷ (member (codes "name") (string (text_of f.name))
    ++ (key (codes "kind") ∷ (function_kind_tokens f.kind
    ++ (key (codes "params") ∷ (listed param_tokens f.params.items
    ++ (member (codes "result") (type_or_null f.result)
    ++ (external_member (optional_text f.external_id) ++ end_object ∷ [])))))))

-- the number of the package that something is in, or null
abbrev pub home_member : Option PackageId → List Token
home_member p = member (codes "package") (number_or_null (option_map (λ id. id.0) p))

-- an entry of the list of interfaces, with the numbers of its types
unfoldable pub interface_tokens : Interface → List Token
interface_tokens i =
    begin_object ∷ (member (codes "name") (text_or_null (optional_text i.name))
    ++ (home_member i.package
    ++ (key (codes "types") ∷ (listed (λ id. number_entry id.0) (values i.types)
    ++ (key (codes "functions") ∷ (listed function_tokens (values i.functions) ++ end_object ∷ []))))))

-- ---- worlds

-- what is imported or exported, as members of its entry
unfoldable pub item_tokens : WorldItem → List Token
item_tokens (item.Interface id stability docs external_id) = member (codes "interface") (number_token id.0) ++ external_member (optional_text external_id)
item_tokens (item.Function f) = key (codes "function") ∷ function_tokens f
item_tokens (item.Type_ id) = member (codes "type") (number_token id.0)

-- an import or an export, with its label or its path
unfoldable pub entry_tokens : Resolve → WorldKey × WorldItem → List Token
entry_tokens r e = begin_object ∷ (member (codes "key") (string (key_text r e.0)) ++ (item_tokens e.1 ++ end_object ∷ []))

-- an entry of the list of worlds, with its imports and its exports in order
unfoldable pub world_tokens : Resolve → World → List Token
world_tokens r w =
    begin_object ∷ (member (codes "name") (string (text_of w.name))
    ++ (home_member w.package
    ++ (key (codes "imports") ∷ (listed (entry_tokens r) w.imports.entries
    ++ (key (codes "exports") ∷ (listed (entry_tokens r) w.exports.entries ++ end_object ∷ []))))))

-- ---- packages

-- the names of a package, and its version
unfoldable pub package_name_tokens : PackageName → List Token
package_name_tokens name =
    member (codes "namespace") (string (text_of name.namespace))
    ++ (member (codes "name") (string (text_of name.name)) ++ member (codes "version") (text_or_null (optional_version_text name.version)))

-- an entry of the list of packages, with the numbers of its interfaces and of its worlds
unfoldable pub package_tokens : Package → List Token
package_tokens p =
    begin_object ∷ (package_name_tokens p.name
    ++ (key (codes "interfaces") ∷ (listed (λ id. number_entry id.0) (values p.interfaces)
    ++ (key (codes "worlds") ∷ (listed (λ id. number_entry id.0) (values p.worlds) ++ end_object ∷ [])))))

-- ---- the whole

-- the four lists, each under its name
unfoldable pub tokens_of : Resolve → List Token
tokens_of r =
    key (codes "packages") ∷ (listed package_tokens r.packages.items
    ++ (key (codes "worlds") ∷ (listed (world_tokens r) r.worlds.items
    ++ (key (codes "interfaces") ∷ (listed interface_tokens r.interfaces.items
    ++ (key (codes "types") ∷ listed type_tokens r.types.items))))))

-- how a listing begins: the number of its format, and the four lists
abbrev pub listing_begun : Resolve → List Token
listing_begun r = begin_object ∷ (member (codes "format") (number_token 1) ++ tokens_of r)

-- the whole listing, of this subject
abbrev pub whole_listing : Resolve → List Token → List Token
whole_listing r subject = listing_begun r ++ (subject ++ end_object ∷ [])

-- the listing of the package of this number
abbrev pub package_listing_tokens : Resolve → ℕ → List Token
package_listing_tokens r n = whole_listing r (member (codes "package") (number_token n))

-- the listing of the world of this number
abbrev pub world_listing_tokens : Resolve → ℕ → List Token
world_listing_tokens r n = whole_listing r (member (codes "world") (number_token n))
