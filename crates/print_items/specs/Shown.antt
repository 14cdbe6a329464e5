-- What is shown of packages: their trees as WIT text has them, with documentation (WIT.md, "Package declaration" to "Item: type").
use Rattle.std.specs.Prelude.{Bool, true, false, List, [], ◌∷◌, ◌++◌, ◌==◌, ◌&&◌, ℕ, Option, None, Some, map, drop, option_map, option_and_then, unwrap_or, slice_get, is_some, if◌then◌else◌, filter, String}
use Rattle.std.specs.{List.filter_map, Option.option_map_or, Option.option_eq, Borrow.Bor, Str.chars, Str.Lines.lines}
use Rattle.std.specs.declared.alloc.Global.{Global}
use Rattle.semver.specs.Identifiers.{version_text}
use Rattle.wit_model.specs.declared.model.{Resolve.Resolve, Package.Package, WorldKey.WorldKey, Function.Function, EnumCase.EnumCase, Stability.Stability}
use Rattle.wit_model.specs.declared.model.{Interface.Interface, TypeDefKind.TypeDefKind, TypeOwner.TypeOwner, InterfaceId.InterfaceId, PackageId.PackageId}
use Rattle.wit_model.specs.declared.model.{World.World, TypeDef.TypeDef, TypeId.TypeId, WorldId.WorldId, Param.Param, Field.Field, Record.Record, Case.Case}
use Rattle.wit_model.specs.declared.model.{WorldItem.WorldItem as Item, «Type».«Type» as ValueType, Handle.Handle as HandleKind, FunctionKind.FunctionKind}
use Rattle.wit_model.specs.declared.model.{Flag.Flag, Docs.Docs}
use Rattle.wit_model.specs.{Text.Text, Text.text_of, Text.text_eq, Parts.same_owner, Rules.is_freestanding, Rules.is_own_of, Valid.item_function}
use Rattle.wit_model.specs.Lookup.{package_at, interface_at, world_at, type_at, optional_version_text, is_async, resource_of}
use Rattle.wit_model.specs.Calls.{item_name}
use Rattle.print_grammar.specs.{Keyword.PrimitiveName, Tree.TypeTrees.NoTypes, Tree.TypeTrees.AndTypes}
use Rattle.print_grammar.specs.Tree.{TypeTree, TypeTrees, Gates, Prefix, ParamTree, FieldTree, CaseTree, LabelTree, SignatureTree, ResourceMember, Declared, PathTree, UsedName, MemberTree, ExternTree, WorldMember, ItemTree, PackageHead, PackageTree, FileTree}
use Rattle.print_grammar.specs.Tree.TypeTree.{PrimitiveType, Name, Handle, Own, Borrow, TupleOf, OptionOf, ListOf, FixedListOf, MapOf, Result, ResultOk, ResultErr, ResultOf, Future, FutureOf, Stream, StreamOf}
use Rattle.print_grammar.specs.Tree.{Gates.Ungated, Gates.Since, Gates.Unstable, ResourceMember.Constructor, ResourceMember.Method, ResourceMember.Static}
use Rattle.print_grammar.specs.Tree.Declared.{RecordOf, VariantOf, FlagsOf, EnumOf, AliasOf, ResourceOf}
use Rattle.print_grammar.specs.Tree.{PathTree.Local, PathTree.Full, ExternTree.Path, ExternTree.NamedFunction, ExternTree.NamedPath, ExternTree.NamedInterface}
use Rattle.print_grammar.specs.Tree.{MemberTree.UseMember, MemberTree.TypeMember, MemberTree.FunctionMember, ItemTree.InterfaceItem, ItemTree.WorldItem}
use Rattle.print_grammar.specs.Tree.WorldMember.{WorldUse, WorldType, WorldImport, WorldExport}
use Rattle.wit_model.specs.declared.model.WorldKey.TheVariants as key
use Rattle.wit_model.specs.declared.model.WorldItem.TheVariants as item
use Rattle.wit_model.specs.declared.model.TypeDefKind.TheVariants as defined
use Rattle.wit_model.specs.declared.model.TypeOwner.TheVariants as owner
use Rattle.wit_model.specs.declared.model.«Type».TheVariants as value
use Rattle.wit_model.specs.declared.model.Handle.TheVariants as handle
use Rattle.wit_model.specs.declared.model.FunctionKind.TheVariants as function
use Rattle.wit_model.specs.declared.model.Stability.TheVariants as stability

-- ---- texts

-- the text of a name that is there
abbrev pub present_name : Option (String Global) → Text
present_name name = option_map_or text_of name []

-- lines of documentation, without their line ends
abbrev pub shown_docs : Docs → List Text
shown_docs docs = option_map_or (λ contents. lines (text_of contents)) docs.contents []

-- the feature gates of an item, by its stability
abbrev pub shown_gates : Stability → Gates
shown_gates stability.Unknown = Ungated
shown_gates (stability.Stable since deprecated) = Since (version_text since) (optional_version_text deprecated)
shown_gates (stability.Unstable feature deprecated) = Unstable (text_of feature) (optional_version_text deprecated)

-- the characters of an external id
abbrev pub shown_external_id : Option (String Global) → Option (List ℕ)
shown_external_id external_id = option_map (λ s. chars (text_of s)) external_id

-- what stands in front of an item: its documentation, its gates and its external id
abbrev pub shown_prefix : Docs → Stability → Option (String Global) → Prefix
shown_prefix docs gates external_id = record { docs = shown_docs docs; gates = shown_gates gates; external_id = shown_external_id external_id }

-- ---- types

-- the name of the type of this number
abbrev pub type_name : Resolve → TypeId → Text
type_name resolve id = option_map_or (λ def. present_name def.name) (type_at resolve id.0) []

-- A type where it is used, by the trees of the type numbers.
abbrev pub used_type : List TypeTree → ValueType → TypeTree
used_type trees value.Bool = PrimitiveType PrimitiveName.Bool_
used_type trees value.U8 = PrimitiveType PrimitiveName.U8
used_type trees value.U16 = PrimitiveType PrimitiveName.U16
used_type trees value.U32 = PrimitiveType PrimitiveName.U32
used_type trees value.U64 = PrimitiveType PrimitiveName.U64
used_type trees value.S8 = PrimitiveType PrimitiveName.S8
used_type trees value.S16 = PrimitiveType PrimitiveName.S16
used_type trees value.S32 = PrimitiveType PrimitiveName.S32
used_type trees value.S64 = PrimitiveType PrimitiveName.S64
used_type trees value.F32 = PrimitiveType PrimitiveName.F32
used_type trees value.F64 = PrimitiveType PrimitiveName.F64
used_type trees value.Char = PrimitiveType PrimitiveName.Char
used_type trees value.String = PrimitiveType PrimitiveName.String
used_type trees value.ErrorContext = PrimitiveType PrimitiveName.ErrorContext
used_type trees (value.Id id) = unwrap_or (slice_get trees id.0) (Name [])

-- types where they are used, as those of a tuple
abbrev pub used_type_trees : List TypeTree → List ValueType → TypeTrees
used_type_trees trees [] = NoTypes
used_type_trees trees (ty ∷ types) = AndTypes (used_type trees ty) (used_type_trees trees types)

-- a future, with its element where it has one
abbrev pub future_type_tree : Option TypeTree → TypeTree
future_type_tree None = Future
future_type_tree (Some ty) = FutureOf ty

-- a stream, with its element where it has one
abbrev pub stream_type_tree : Option TypeTree → TypeTree
stream_type_tree None = Stream
stream_type_tree (Some ty) = StreamOf ty

-- a result, with its ok and its err where it has them
abbrev pub result_type_tree : Option TypeTree → Option TypeTree → TypeTree
result_type_tree None None = Result
result_type_tree (Some ok) None = ResultOk ok
result_type_tree None (Some err) = ResultErr err
result_type_tree (Some ok) (Some err) = ResultOf ok err

-- A kind without a name of its own, where it is used. An owned handle has its resource's name.
abbrev pub kind_tree : Resolve → List TypeTree → TypeDefKind → TypeTree
kind_tree resolve trees (defined.Handle (handle.Own id)) = Handle (type_name resolve id)
kind_tree resolve trees (defined.Handle (handle.Borrow id)) = Borrow (type_name resolve id)
kind_tree resolve trees (defined.Tuple tuple) = TupleOf (used_type_trees trees tuple.types.items)
kind_tree resolve trees (defined.Option ty) = OptionOf (used_type trees ty)
kind_tree resolve trees (defined.Result result) = result_type_tree (option_map (used_type trees) result.ok) (option_map (used_type trees) result.err)
kind_tree resolve trees (defined.List ty) = ListOf (used_type trees ty)
kind_tree resolve trees (defined.Map k v) = MapOf (used_type trees k) (used_type trees v)
kind_tree resolve trees (defined.FixedLengthList ty length) = FixedListOf (used_type trees ty) length
kind_tree resolve trees (defined.Future ty) = future_type_tree (option_map (used_type trees) ty)
kind_tree resolve trees (defined.Stream ty) = stream_type_tree (option_map (used_type trees) ty)
kind_tree resolve trees (defined.Type_ ty) = used_type trees ty
-- records, flags, variants, enums and resources have names
kind_tree resolve trees kind = Name []

-- A type number where it is used: its name, or else its kind.
abbrev pub def_tree : Resolve → List TypeTree → TypeDef → TypeTree
def_tree resolve trees def = option_map_or (λ name. Name (text_of name)) def.name (kind_tree resolve trees def.kind)

-- The trees of the type numbers from the front: each refers to smaller numbers alone.
abbrev pub trees_from : Resolve → List TypeTree → List TypeDef → List TypeTree
trees_from resolve trees [] = trees
trees_from resolve trees (def ∷ defs) = trees_from resolve (trees ++ def_tree resolve trees def ∷ []) defs

-- the trees of all type numbers, where they are used
abbrev pub type_trees : Resolve → List TypeTree
type_trees resolve = trees_from resolve [] resolve.types.items

-- a type where it is used
abbrev pub shown_type : Resolve → ValueType → TypeTree
shown_type resolve ty = used_type (type_trees resolve) ty

-- a map from keys of one type to values of another
abbrev pub shown_map : Resolve → ValueType → ValueType → TypeTree
shown_map resolve key value = MapOf (shown_type resolve key) (shown_type resolve value)

-- the type that a future or a stream carries, if there is one
abbrev pub shown_payload : Resolve → Option ValueType → Option TypeTree
shown_payload resolve payload = option_map (shown_type resolve) payload

-- a field of a record
abbrev pub shown_field : Resolve → Field → FieldTree
shown_field resolve field = record { docs = shown_docs field.docs; name = text_of field.name; ty = shown_type resolve field.ty }

-- the fields of a record, in order
abbrev pub shown_fields : Resolve → Record → List FieldTree
shown_fields resolve r = map (shown_field resolve) r.fields.items

-- a case of a variant
abbrev pub shown_case : Resolve → Case → CaseTree
shown_case resolve c = record { docs = shown_docs c.docs; name = text_of c.name; payload = option_map (shown_type resolve) c.ty }

-- a flag
abbrev pub shown_flag : Flag → LabelTree
shown_flag flag = record { docs = shown_docs flag.docs; name = text_of flag.name }

-- a case of an enum
abbrev pub shown_enum_case : EnumCase → LabelTree
shown_enum_case c = record { docs = shown_docs c.docs; name = text_of c.name }

-- ---- functions

-- whether a function is a method
abbrev pub is_method : FunctionKind → Bool
is_method (function.Method id) = true
is_method (function.AsyncMethod id) = true
is_method kind = false

-- whether a function belongs to this resource
abbrev pub belongs_to : TypeId → Function → Bool
belongs_to resource f = option_map_or (λ number. number == resource.0) (resource_of f.kind) false

-- a parameter of a function
abbrev pub shown_param : Resolve → Param → ParamTree
shown_param resolve param = record { name = text_of param.name; ty = shown_type resolve param.ty }

-- the parameters that are written: a method's first is not
abbrev pub shown_params : Resolve → Function → List ParamTree
shown_params resolve f = map (shown_param resolve) (if is_method f.kind then drop 1 f.params.items else f.params.items)

-- a function's type, a method's without `self`
abbrev pub shown_signature : Resolve → Function → SignatureTree
shown_signature resolve f = record { is_async = is_async f.kind; params = shown_params resolve f; result = option_map (shown_type resolve) f.result }

-- what a constructor's result is written as: nothing where it is its resource
abbrev pub constructor_result : Resolve → TypeId → Option ValueType → Option TypeTree
constructor_result resolve resource None = None
constructor_result resolve resource (Some (value.Id id)) =
    if option_map_or (is_own_of resource.0) (type_at resolve id.0) false then None else Some (shown_type resolve (value.Id id))
constructor_result resolve resource (Some ty) = Some (shown_type resolve ty)

-- what stands in front of a function
abbrev pub function_prefix : Function → Prefix
function_prefix f = shown_prefix f.docs f.stability f.external_id

-- a function of a resource, under its own name
abbrev pub shown_resource_member : Resolve → Function → ResourceMember
shown_resource_member resolve f = by_kind f.kind
  where
    by_kind : FunctionKind → ResourceMember
    by_kind (function.Constructor id) = Constructor (function_prefix f) (shown_params resolve f) (constructor_result resolve id f.result)
    by_kind (function.Static id) = Static (function_prefix f) (item_name f) (shown_signature resolve f)
    by_kind (function.AsyncStatic id) = Static (function_prefix f) (item_name f) (shown_signature resolve f)
    by_kind kind = Method (function_prefix f) (item_name f) (shown_signature resolve f)

-- functions of a resource behind references, as its block has them
abbrev pub shown_resource_members : Resolve → List (Bor Function) → List ResourceMember
shown_resource_members resolve functions = map (λ f. shown_resource_member resolve f.now) functions

-- ---- declarations and uses

-- a handle with a name of its own keeps `own`
abbrev pub named_handle : Resolve → HandleKind → TypeTree
named_handle resolve (handle.Own id) = Own (type_name resolve id)
named_handle resolve (handle.Borrow id) = Borrow (type_name resolve id)

-- what `type` declares
abbrev pub alias_tree : Resolve → TypeDefKind → TypeTree
alias_tree resolve (defined.Handle h) = named_handle resolve h
alias_tree resolve kind = kind_tree resolve (type_trees resolve) kind

-- a kind that is declared under a name, with functions if it is a resource
abbrev pub declared_of : Resolve → Text → List ResourceMember → TypeDefKind → Declared
declared_of resolve name members (defined.Record r) = RecordOf name (map (shown_field resolve) r.fields.items)
declared_of resolve name members defined.Resource = ResourceOf name members
declared_of resolve name members (defined.Flags f) = FlagsOf name (map shown_flag f.flags.items)
declared_of resolve name members (defined.Variant v) = VariantOf name (map (shown_case resolve) v.cases.items)
declared_of resolve name members (defined.Enum e) = EnumOf name (map shown_enum_case e.cases.items)
declared_of resolve name members kind = AliasOf name (alias_tree resolve kind)

-- A declared type, with the functions among which a resource's stand.
abbrev pub shown_declared : Resolve → List Function → TypeId → TypeDef → Declared
shown_declared resolve functions id def =
    declared_of resolve (present_name def.name) (map (shown_resource_member resolve) (filter (belongs_to id) functions)) def.kind

-- a path to a name in a package
abbrev pub full_path : Text → Package → PathTree
full_path interface p = Full (text_of p.name.namespace) (text_of p.name.name) interface (optional_version_text p.name.version)

-- A path from a package to an interface: its name alone, in the same package.
abbrev pub path_from : Resolve → PackageId → Interface → PathTree
path_from resolve here interface = by_package interface.«package»
  where
    name : Text
    name = present_name interface.name

    by_package : Option PackageId → PathTree
    by_package None = Local name
    by_package (Some p) = if p.0 == here.0 then Local name else option_map_or (full_path name) (package_at resolve p.0) (Local name)

-- the path from a package to the interface of this number
abbrev pub shown_path : Resolve → PackageId → InterfaceId → PathTree
shown_path resolve here id = option_map_or (path_from resolve here) (interface_at resolve id.0) (Local [])

-- types that are used from another interface: that interface, what stands in front, and the names
pub record Used : Type 0 where
  pub interface : InterfaceId
  pub prefix : Prefix
  pub names : List UsedName

-- the name that a type has here, where it isn't the one that it has there
abbrev pub own_name : Text → Text → Option Text
own_name own other = if text_eq own other then None else Some own

-- the use that a type is, if its target is another owner's
abbrev pub used_of : Resolve → TypeOwner → Text → TypeDef → Option Used
used_of resolve here own def = by_kind def.kind
  where
    by_owner : Text → TypeOwner → Option Used
    by_owner other (owner.Interface id) =
        if same_owner here (owner.Interface id)
        then None
        else Some (record {
          interface = id;
          prefix = record { docs = []; gates = shown_gates def.stability; external_id = shown_external_id def.external_id };
          names = record { other = other; own = own_name own other } ∷ [];
        })
    by_owner other of = None

    by_kind : TypeDefKind → Option Used
    by_kind (defined.Type_ (value.Id id)) = option_and_then (λ target. by_owner (present_name target.name) target.owner) (type_at resolve id.0)
    by_kind kind = None

-- whether two items have the same gates
abbrev pub same_gates : Gates → Gates → Bool
same_gates Ungated Ungated = true
same_gates (Since a d) (Since b e) = text_eq a b && option_eq text_eq d e
same_gates (Unstable a d) (Unstable b e) = text_eq a b && option_eq text_eq d e
same_gates a b = false

-- one group: the same interface, gates and external id
abbrev pub same_group : Used → Used → Bool
same_group a b = (a.interface.0 == b.interface.0) && same_gates a.prefix.gates b.prefix.gates && option_eq text_eq a.prefix.external_id b.prefix.external_id

-- a use in front of groups: it joins the first of them, if it can be written with it
abbrev pub grouped_with : Used → List Used → List Used
grouped_with used [] = used ∷ []
grouped_with used (group ∷ groups) =
    if same_group used group then record used { names = used.names ++ group.names } ∷ groups else used ∷ group ∷ groups

-- uses in groups: neighbours that can be written as one `use` are one
abbrev pub grouped : List Used → List Used
grouped [] = []
grouped (used ∷ uses) = grouped_with used (grouped uses)

-- the name and number of a type in an owner's list
abbrev pub Listed : Type 0
Listed = record { name : Text; id : TypeId }

-- the uses among listed types, in groups
abbrev pub shown_uses : Resolve → TypeOwner → List Listed → List Used
shown_uses resolve here types =
    grouped (filter_map (λ listed. option_and_then (used_of resolve here listed.name) (type_at resolve listed.id.0)) types)

-- a declared type with what stands in front of it
abbrev pub DeclaredWith : Type 0
DeclaredWith = record { prefix : Prefix; declared : Declared }

-- a listed type that is no use
abbrev pub declared_with : Resolve → TypeOwner → List Function → Listed → TypeDef → Option DeclaredWith
declared_with resolve here functions listed def =
    if is_some (used_of resolve here listed.name def)
    then None
    else Some (record { prefix = shown_prefix def.docs def.stability def.external_id; declared = shown_declared resolve functions listed.id def })

-- the types of an owner that are no uses, each declared, in order
abbrev pub shown_declarations : Resolve → TypeOwner → List Function → List Listed → List DeclaredWith
shown_declarations resolve here functions types =
    filter_map (λ listed. option_and_then (declared_with resolve here functions listed) (type_at resolve listed.id.0)) types

-- the package of an owner
abbrev pub owner_package : Resolve → TypeOwner → Option PackageId
owner_package resolve (owner.Interface id) = option_and_then (λ i. i.«package») (interface_at resolve id.0)
owner_package resolve (owner.World id) = option_and_then (λ w. w.«package») (world_at resolve id.0)
owner_package resolve owner.None = None

-- a path from the package of an owner
abbrev pub path_from_owner : Resolve → Option PackageId → InterfaceId → PathTree
path_from_owner resolve here other = option_map_or (λ p. shown_path resolve p other) here (Local [])

-- ---- interfaces

-- the types of an interface, under their names
abbrev pub listed_types : Interface → List Listed
listed_types interface = map (λ entry. record { name = text_of entry.0; id = entry.1 }) interface.types.entries

-- the functions of an interface
abbrev pub listed_functions : Interface → List Function
listed_functions interface = map (λ entry. entry.1) interface.functions.entries

-- a freestanding function of an interface
abbrev pub shown_function : Resolve → Function → MemberTree
shown_function resolve f = FunctionMember (function_prefix f) (text_of f.name) (shown_signature resolve f)

-- An interface: uses, then declared types, then functions.
abbrev pub shown_interface : Resolve → InterfaceId → Interface → List MemberTree
shown_interface resolve id interface =
    map (λ used. UseMember used.prefix (path_from_owner resolve interface.«package» used.interface) used.names)
    (shown_uses resolve (owner.Interface id) (listed_types interface))
    ++ map (λ d. TypeMember d.prefix d.declared) (shown_declarations resolve (owner.Interface id) (listed_functions interface) (listed_types interface))
    ++ map (shown_function resolve) (filter (λ f. is_freestanding f.kind) (listed_functions interface))

-- ---- worlds

-- What an import or an export of a package's world is.
abbrev pub shown_extern : Resolve → PackageId → WorldKey → Item → ExternTree
shown_extern resolve here (key.Interface id) what = Path (shown_path resolve here id)
shown_extern resolve here (key.Name s) (item.Interface id stability docs external_id) =
    if option_map_or (λ i. is_some i.name) (interface_at resolve id.0) false
    then NamedPath (text_of s) (shown_path resolve here id)
    else NamedInterface (text_of s) (option_map_or (shown_interface resolve id) (interface_at resolve id.0) [])
shown_extern resolve here (key.Name s) (item.Function f) = NamedFunction (text_of f.name) (shown_signature resolve f)
-- types are shown otherwise
shown_extern resolve here (key.Name s) (item.Type_ id) = Path (Local [])

-- An import's or export's documentation is its own. Without contents and under a label it is the interface's.
abbrev pub extern_docs : Resolve → WorldKey → InterfaceId → Docs → List Text
extern_docs resolve (key.Interface other) id docs = shown_docs docs
extern_docs resolve (key.Name s) id docs =
    if is_some docs.contents then shown_docs docs else option_map_or (λ i. shown_docs i.docs) (interface_at resolve id.0) []

-- what stands in front of an import or an export
abbrev pub extern_prefix : Resolve → WorldKey → Item → Prefix
extern_prefix resolve k (item.Interface id gates docs external_id) =
    record { docs = extern_docs resolve k id docs; gates = shown_gates gates; external_id = shown_external_id external_id }
extern_prefix resolve k (item.Function f) = function_prefix f
extern_prefix resolve k (item.Type_ id) = record { docs = []; gates = Ungated; external_id = None }

-- an entry of a world
abbrev pub WorldEntry : Type 0
WorldEntry = WorldKey × Item

-- an import of a world
abbrev pub shown_import : Resolve → PackageId → WorldEntry → WorldMember
shown_import resolve here entry = WorldImport (extern_prefix resolve entry.0 entry.1) (shown_extern resolve here entry.0 entry.1)

-- an export of a world
abbrev pub shown_export : Resolve → PackageId → WorldEntry → WorldMember
shown_export resolve here entry = WorldExport (extern_prefix resolve entry.0 entry.1) (shown_extern resolve here entry.0 entry.1)

-- whether an item is an interface
abbrev pub is_interface_item : Item → Bool
is_interface_item (item.Interface id gates docs external_id) = true
is_interface_item other = false

-- whether an item is a freestanding function
abbrev pub is_freestanding_item : Item → Bool
is_freestanding_item item = option_map_or (λ f. is_freestanding f.kind) (item_function item) false

-- the type that an import is, under its name, if it is one
abbrev pub type_of_entry : WorldKey → Item → Option Listed
type_of_entry (key.Name s) (item.Type_ id) = Some (record { name = text_of s; id = id })
type_of_entry k other = None

-- the types of a world, under their names
abbrev pub listed_imports : World → List Listed
listed_imports world = filter_map (λ entry. type_of_entry entry.0 entry.1) world.imports.entries

-- the functions that a world imports itself
abbrev pub imported_functions : World → List Function
imported_functions world = filter_map (λ entry. item_function entry.1) world.imports.entries

-- A world: imported interfaces, uses, declared types, imported functions, exports.
abbrev pub shown_world_in : Resolve → WorldId → World → PackageId → List WorldMember
shown_world_in resolve id world here =
    map (shown_import resolve here) (filter (λ entry. is_interface_item entry.1) world.imports.entries)
    ++ map (λ used. WorldUse used.prefix (shown_path resolve here used.interface) used.names) (shown_uses resolve (owner.World id) (listed_imports world))
    ++ map (λ d. WorldType d.prefix d.declared) (shown_declarations resolve (owner.World id) (imported_functions world) (listed_imports world))
    ++ map (shown_import resolve here) (filter (λ entry. is_freestanding_item entry.1) world.imports.entries)
    ++ map (shown_export resolve here) world.exports.entries

-- a world's members
abbrev pub shown_world : Resolve → WorldId → World → List WorldMember
shown_world resolve id world = option_map_or (shown_world_in resolve id world) world.«package» []

-- ---- packages

-- a package's interface, under its name
abbrev pub shown_interface_item : Resolve → String Global × InterfaceId → Option ItemTree
shown_interface_item resolve entry =
    option_map (λ i. InterfaceItem (shown_docs i.docs) (shown_gates i.stability) (text_of entry.0) (shown_interface resolve entry.1 i))
    (interface_at resolve entry.1.0)

-- a package's world, under its name
abbrev pub shown_world_item : Resolve → String Global × WorldId → Option ItemTree
shown_world_item resolve entry =
    option_map (λ w. WorldItem (shown_docs w.docs) (shown_gates w.stability) (text_of entry.0) (shown_world resolve entry.1 w)) (world_at resolve entry.1.0)

-- a package's documentation and name
abbrev pub shown_head : Package → PackageHead
shown_head p = record {
  docs = shown_docs p.docs;
  namespace = text_of p.name.namespace;
  name = text_of p.name.name;
  version =
      optional_version_text p.name.version;
}

-- A package: its interfaces, and then its worlds.
abbrev pub shown_package_of : Resolve → Package → PackageTree
shown_package_of resolve p = record {
  head = shown_head p;
  items = filter_map (shown_interface_item resolve) p.interfaces.entries ++ filter_map (shown_world_item resolve) p.worlds.entries;
}

-- what stands where there is no package
abbrev pub no_package : PackageTree
no_package = record { head = record { docs = []; namespace = []; name = []; version = None }; items = [] }

-- the package of this number
abbrev pub shown_package : Resolve → PackageId → PackageTree
shown_package resolve id = option_map_or (shown_package_of resolve) (package_at resolve id.0) no_package

-- A package, and others nested in its file.
abbrev pub shown_file : Resolve → PackageId → List PackageId → FileTree
shown_file resolve main nested = record { main = shown_package resolve main; nested = map (shown_package resolve) nested }
