-- The calls that printing makes of an output: those of a tree of WIT text, with its documentation (WIT.md, "Package declaration" to "Item: type").
use Rattle.std.specs.Prelude.{Bool, true, false, List, [], ◌∷◌, ◌++◌, ◌==◌, ◌||◌, ◌&&◌, nat_le, not, ℕ, Option, None, Some, codes, map, if◌then◌else◌}
use Rattle.std.specs.{List.flat_map, Fmt.decimal, Fmt.digits}
use Rattle.wit_model.specs.Text.{Text}
use Rattle.print_grammar.specs.{Keyword.escaped, Keyword.primitive_text, Tree.TypeTrees.NoTypes, Tree.TypeTrees.AndTypes}
use Rattle.print_grammar.specs.Tree.{TypeTree, TypeTrees, Gates, Prefix, ParamTree, FieldTree, CaseTree, LabelTree, SignatureTree, ResourceMember, Declared, PathTree, UsedName, MemberTree, ExternTree, WorldMember, ItemTree, PackageHead, PackageTree, FileTree}
use Rattle.print_grammar.specs.Tree.TypeTree.{PrimitiveType, Name, Handle, Own, Borrow, TupleOf, OptionOf, ListOf, FixedListOf, MapOf, Result, ResultOk, ResultErr, ResultOf, Future, FutureOf, Stream, StreamOf}
use Rattle.print_grammar.specs.Tree.{Gates.Ungated, Gates.Since, Gates.Unstable, ResourceMember.Constructor, ResourceMember.Method, ResourceMember.Static}
use Rattle.print_grammar.specs.Tree.Declared.{RecordOf, VariantOf, FlagsOf, EnumOf, AliasOf, ResourceOf}
use Rattle.print_grammar.specs.Tree.{PathTree.Local, PathTree.Full, ExternTree.Path, ExternTree.NamedFunction, ExternTree.NamedPath, ExternTree.NamedInterface}
use Rattle.print_grammar.specs.Tree.{MemberTree.UseMember, MemberTree.TypeMember, MemberTree.FunctionMember, ItemTree.InterfaceItem, ItemTree.WorldItem}
use Rattle.print_grammar.specs.Tree.WorldMember.{WorldUse, WorldType, WorldImport, WorldExport}
use Rattle.print_output.specs.OutputCall.{OutputCall}
use Rattle.print_output.specs.OutputCall.OutputCall.{PushStr, IndentStart, IndentEnd, Newline, Keyword, Ty, Param, Case, GenericArgsStart, GenericArgsEnd, Doc, Semicolon, Str}
use Rattle.print_output.specs.declared.type_kind.TypeKind.{TypeKind}
use Rattle.print_output.specs.declared.type_kind.TypeKind.TheVariants as kind

-- a name of a kind
abbrev pub name_calls : Text → TypeKind → List OutputCall
name_calls label of_kind = Ty (escaped label) of_kind ∷ []

-- a space
abbrev pub space : OutputCall
space = Str (codes " ")

-- runs of calls, with a separator between them
abbrev pub separated : OutputCall → List (List OutputCall) → List OutputCall
separated separator [] = []
separated separator (run ∷ runs) = run ++ flat_map (λ next. separator ∷ next) runs

-- a version after its mark
abbrev pub version_calls : Option Text → TypeKind → List OutputCall
version_calls None of_kind = []
version_calls (Some version) of_kind = Ty (64 ∷ version) of_kind ∷ []

-- an attribute with a version
abbrev pub version_attribute_calls : Text → Text → List OutputCall
version_attribute_calls word version =
    Keyword word ∷ Str (codes "(") ∷ Keyword (codes "version") ∷ Str (codes " = ") ∷ Ty version kind.VersionAnnotation ∷ Str (codes ")") ∷ Newline ∷ []

-- a deprecation's attribute, if there is one
abbrev pub deprecated_calls : Option Text → List OutputCall
deprecated_calls None = []
deprecated_calls (Some version) = version_attribute_calls (codes "@deprecated") version

-- feature gates, each an attribute on its line
abbrev pub gates_calls : Gates → List OutputCall
gates_calls Ungated = []
gates_calls (Since version deprecated) = version_attribute_calls (codes "@since") version ++ deprecated_calls deprecated
gates_calls (Unstable feature deprecated) =
    (Keyword (codes "@unstable") ∷ Str (codes "(") ∷ Keyword (codes "feature") ∷ Str (codes " = ") ∷ Str (escaped feature) ∷ Str (codes ")") ∷ Newline ∷ [])
    ++ deprecated_calls deprecated

-- a letter, a digit, or one of `-`, `_`, `.`, `/`, `:` and a space
abbrev pub is_plain : ℕ → Bool
is_plain c =
    (nat_le 97 c && nat_le c 122) || (nat_le 65 c && nat_le c 90) || (nat_le 48 c && nat_le c 57) || (c == 45) || (c == 95) || (c == 46) || (c == 47)
    || (c == 58) || (c == 32)

-- how a character is written in a string
abbrev pub escaped_character : ℕ → Text
escaped_character c =
    if is_plain c then c ∷ []
    else (if c == 92 then codes "\\\\"
    else (if c == 34 then codes "\\\""
    else (if c == 10 then codes "\\n"
    else (if c == 13 then codes "\\r"
    else (if c == 9 then codes "\\t"
    else (codes "\\u{" ++ digits 16 false c) ++ codes "}")))))

-- a character of a string
abbrev pub character_call : ℕ → OutputCall
character_call c = PushStr (escaped_character c)

-- an external id's attribute, if there is one
abbrev pub external_id_calls : Option (List ℕ) → List OutputCall
external_id_calls None = []
external_id_calls (Some characters) =
    Keyword (codes "@external-id") ∷ Str (codes "(\"") ∷ (map character_call characters ++ (Str (codes "\")") ∷ Newline ∷ []))

-- a resource in angle brackets after a word
abbrev pub handle_calls : Text → Text → List OutputCall
handle_calls word resource = Ty word kind.BuiltIn ∷ GenericArgsStart ∷ Ty (escaped resource) kind.Resource ∷ GenericArgsEnd ∷ []

abbrev mutual
  -- a type where it is used
  pub type_calls : TypeTree → List OutputCall
  type_calls (PrimitiveType p) = Ty (primitive_text p) kind.BuiltIn ∷ []
  type_calls (Name name) = name_calls name kind.Other
  type_calls (Handle resource) = name_calls resource kind.Resource
  type_calls (Own resource) = handle_calls (codes "own") resource
  type_calls (Borrow resource) = handle_calls (codes "borrow") resource
  type_calls (TupleOf types) = Ty (codes "tuple") kind.BuiltIn ∷ GenericArgsStart ∷ (types_calls types ++ (GenericArgsEnd ∷ []))
  type_calls (OptionOf ty) = Ty (codes "option") kind.BuiltIn ∷ GenericArgsStart ∷ (type_calls ty ++ (GenericArgsEnd ∷ []))
  type_calls (ListOf ty) = Ty (codes "list") kind.BuiltIn ∷ GenericArgsStart ∷ (type_calls ty ++ (GenericArgsEnd ∷ []))
  type_calls (FixedListOf ty length) =
      Ty (codes "list") kind.BuiltIn ∷ GenericArgsStart ∷ (type_calls ty ++ (PushStr (codes ", " ++ decimal length) ∷ GenericArgsEnd ∷ []))
  type_calls (MapOf key value) =
      Ty (codes "map") kind.BuiltIn ∷ GenericArgsStart ∷ (type_calls key ++ (Str (codes ", ") ∷ (type_calls value ++ (GenericArgsEnd ∷ []))))
  type_calls Result = Ty (codes "result") kind.BuiltIn ∷ []
  type_calls (ResultOk ok) = Ty (codes "result") kind.BuiltIn ∷ GenericArgsStart ∷ (type_calls ok ++ (GenericArgsEnd ∷ []))
  type_calls (ResultErr err) = Ty (codes "result") kind.BuiltIn ∷ GenericArgsStart ∷ Str (codes "_, ") ∷ (type_calls err ++ (GenericArgsEnd ∷ []))
  type_calls (ResultOf ok err) =
      Ty (codes "result") kind.BuiltIn ∷ GenericArgsStart ∷ (type_calls ok ++ (Str (codes ", ") ∷ (type_calls err ++ (GenericArgsEnd ∷ []))))
  type_calls Future = PushStr (codes "future") ∷ []
  type_calls (FutureOf ty) = PushStr (codes "future<") ∷ (type_calls ty ++ (PushStr (codes ">") ∷ []))
  type_calls Stream = PushStr (codes "stream") ∷ []
  type_calls (StreamOf ty) = PushStr (codes "stream<") ∷ (type_calls ty ++ (PushStr (codes ">") ∷ []))

  -- the types of a tuple, with commas between
  pub types_calls : TypeTrees → List OutputCall
  types_calls NoTypes = []
  types_calls (AndTypes ty types) = type_calls ty ++ more_types_calls types

  -- further types of a tuple, each after a comma
  pub more_types_calls : TypeTrees → List OutputCall
  more_types_calls NoTypes = []
  more_types_calls (AndTypes ty types) = Str (codes ", ") ∷ (type_calls ty ++ more_types_calls types)

-- the kind of a name that `type` declares
abbrev pub alias_kind : TypeTree → TypeKind
alias_kind (Handle resource) = kind.Resource
alias_kind (Own resource) = kind.Resource
alias_kind (Borrow resource) = kind.Resource
alias_kind (TupleOf types) = kind.Tuple
alias_kind (OptionOf ty) = kind.Option
alias_kind (ListOf ty) = kind.List
alias_kind (FixedListOf ty length) = kind.List
alias_kind (MapOf key value) = kind.Map
alias_kind Result = kind.Result
alias_kind (ResultOk ok) = kind.Result
alias_kind (ResultErr err) = kind.Result
alias_kind (ResultOf ok err) = kind.Result
alias_kind Future = kind.Future
alias_kind (FutureOf ty) = kind.Future
alias_kind Stream = kind.Stream
alias_kind (StreamOf ty) = kind.Stream
alias_kind ty = kind.TypeName

-- what `type` declares: lists, maps, streams and futures have plain text where a used type has calls for generic arguments
abbrev pub alias_body_calls : TypeTree → List OutputCall
alias_body_calls (ListOf ty) = Ty (codes "list") kind.BuiltIn ∷ Str (codes "<") ∷ (type_calls ty ++ (Str (codes ">") ∷ []))
alias_body_calls (FixedListOf ty length) =
    Ty (codes "list") kind.BuiltIn ∷ Str (codes "<") ∷ (type_calls ty ++ (Str (codes ", " ++ decimal length) ∷ Str (codes ">") ∷ []))
alias_body_calls (MapOf key value) =
    Ty (codes "map") kind.BuiltIn ∷ Str (codes "<") ∷ (type_calls key ++ (Str (codes ", ") ∷ (type_calls value ++ (Str (codes ">") ∷ []))))
alias_body_calls Future = Ty (codes "future") kind.BuiltIn ∷ []
alias_body_calls (FutureOf ty) = Ty (codes "future") kind.BuiltIn ∷ Str (codes "<") ∷ (type_calls ty ++ (Str (codes ">") ∷ []))
alias_body_calls Stream = Ty (codes "stream") kind.BuiltIn ∷ []
alias_body_calls (StreamOf ty) = Ty (codes "stream") kind.BuiltIn ∷ Str (codes "<") ∷ (type_calls ty ++ (Str (codes ">") ∷ []))
alias_body_calls ty = type_calls ty

-- a parameter: its name, a colon and its type
abbrev pub param_calls : ParamTree → List OutputCall
param_calls param = Param (escaped param.name) ∷ Str (codes ": ") ∷ type_calls param.ty

-- an arrow and a function's result, if it has one
abbrev pub result_calls : Option TypeTree → List OutputCall
result_calls None = []
result_calls (Some ty) = Str (codes " -> ") ∷ type_calls ty

-- parameters in parentheses, and a result
abbrev pub params_calls : List ParamTree → Option TypeTree → List OutputCall
params_calls params result =
    Str (codes "(") ∷ ((separated (Str (codes ", ")) (map param_calls params) ++ (Str (codes ")") ∷ [])) ++ result_calls result)

-- the word `async`, where a function is asynchronous
abbrev pub async_calls : Bool → List OutputCall
async_calls true = Keyword (codes "async") ∷ space ∷ []
async_calls false = []

-- a function's type
abbrev pub signature_calls : SignatureTree → List OutputCall
signature_calls signature = async_calls signature.is_async ++ (Keyword (codes "func") ∷ params_calls signature.params signature.result)

-- a case's payload in parentheses, if it has one
abbrev pub payload_calls : Option TypeTree → List OutputCall
payload_calls None = []
payload_calls (Some ty) = Str (codes "(") ∷ (type_calls ty ++ (Str (codes ")") ∷ []))

-- a word, a name and a block
abbrev pub block_calls : Text → Text → TypeKind → List OutputCall → List OutputCall
block_calls word name of_kind body = Keyword word ∷ space ∷ Ty (escaped name) of_kind ∷ IndentStart ∷ (body ++ (IndentEnd ∷ []))

-- a path: a name alone, or with its package and version
abbrev pub path_calls : PathTree → List OutputCall
path_calls (Local interface) = name_calls interface kind.InterfacePath
path_calls (Full namespace name interface version) =
    Ty (escaped namespace) kind.NamespacePath ∷ Str (codes ":") ∷ Ty (escaped name) kind.PackageNamePath ∷ Str (codes "/") ∷ Ty (escaped interface)
    kind.InterfacePath
    ∷ version_calls version kind.VersionPath

-- a name that is used, and what it is called here, after `as`
abbrev pub own_name_calls : Text → Option Text → List OutputCall
own_name_calls other None = name_calls other kind.TypeImport
own_name_calls other (Some own) = Ty (escaped other) kind.TypeImport ∷ space ∷ Keyword (codes "as") ∷ space ∷ Ty (escaped own) kind.TypeAlias ∷ []

-- a name of a `use`
abbrev pub used_name_calls : UsedName → List OutputCall
used_name_calls used = own_name_calls used.other used.own

-- an empty line before an item, where the block has printed something already
abbrev pub item_calls : Bool → List OutputCall → List OutputCall
item_calls true calls = Newline ∷ calls
item_calls false calls = calls

-- whether a block has printed something, after these too
abbrev pub printed_after : Bool → List MemberTree → Bool
printed_after printed [] = printed
printed_after printed (member ∷ members) = true

-- an empty line if one is wanted: after an interface of the main package, before what comes behind something printed
abbrev pub line_after_calls : Bool → List OutputCall
line_after_calls true = Newline ∷ []
line_after_calls false = []

-- a package's name and version
abbrev pub package_name_calls : Text → Text → Option Text → List OutputCall
package_name_calls namespace name version =
    Keyword (codes "package") ∷ space ∷ Ty (escaped namespace) kind.NamespaceDeclaration ∷ Str (codes ":") ∷ Ty (escaped name) kind.PackageNameDeclaration
    ∷ version_calls version kind.VersionDeclaration

-- what follows a package's name: `;` in the main package, else an open brace
abbrev pub package_start_calls : Bool → List OutputCall
package_start_calls true = Semicolon ∷ Newline ∷ []
package_start_calls false = IndentStart ∷ []

-- what ends a package: nothing for the main package, else a closed brace
abbrev pub package_end_calls : Bool → List OutputCall
package_end_calls true = []
package_end_calls false = IndentEnd ∷ []

-- The calls of a tree, with its documentation or without.
module _ (emits_docs : Bool) where
  -- each line of documentation, if it is printed
  abbrev pub doc_calls : List Text → List OutputCall
  doc_calls docs = if emits_docs then map Doc docs else []

  -- what stands in front of an item: documentation, gates and an external id
  abbrev pub prefix_calls : Prefix → List OutputCall
  prefix_calls prefix = doc_calls prefix.docs ++ gates_calls prefix.gates ++ external_id_calls prefix.external_id

  -- a field of a record, on its line
  abbrev pub field_calls : FieldTree → List OutputCall
  field_calls field =
      doc_calls field.docs ++ (Param (escaped field.name) ∷ Str (codes ": ") ∷ (type_calls field.ty ++ (Str (codes ",") ∷ Newline ∷ [])))

  -- a case of a variant, on its line
  abbrev pub case_calls : CaseTree → List OutputCall
  case_calls c = doc_calls c.docs ++ (Case (escaped c.name) ∷ (payload_calls c.payload ++ (Str (codes ",") ∷ Newline ∷ [])))

  -- a flag or a case of an enum, on its line
  abbrev pub label_calls : LabelTree → List OutputCall
  label_calls label = doc_calls label.docs ++ (Case (escaped label.name) ∷ Str (codes ",") ∷ Newline ∷ [])

  -- a function of a resource
  abbrev pub resource_member_calls : ResourceMember → List OutputCall
  resource_member_calls (Constructor prefix params result) =
      prefix_calls prefix ++ (Keyword (codes "constructor") ∷ (params_calls params result ++ (Semicolon ∷ [])))
  resource_member_calls (Method prefix name signature) =
      prefix_calls prefix ++ (Ty (escaped name) kind.FunctionMethod ∷ Str (codes ": ") ∷ (signature_calls signature ++ (Semicolon ∷ [])))
  resource_member_calls (Static prefix name signature) =
      prefix_calls prefix ++ (Ty (escaped name) kind.FunctionStatic ∷ Str (codes ": ") ∷ Keyword (codes "static") ∷ space
      ∷ (signature_calls signature ++ (Semicolon ∷ [])))

  -- a resource's functions, or the end of its line
  abbrev pub resource_body_calls : List ResourceMember → List OutputCall
  resource_body_calls [] = Semicolon ∷ []
  resource_body_calls (member ∷ members) = IndentStart ∷ (flat_map resource_member_calls (member ∷ members) ++ (IndentEnd ∷ []))

  -- a declared type
  abbrev pub declared_calls : Declared → List OutputCall
  declared_calls (RecordOf name fields) = block_calls (codes "record") name kind.Record (flat_map field_calls fields)
  declared_calls (VariantOf name cases) = block_calls (codes "variant") name kind.Variant (flat_map case_calls cases)
  declared_calls (FlagsOf name flags) = block_calls (codes "flags") name kind.Flags (flat_map label_calls flags)
  declared_calls (EnumOf name cases) = block_calls (codes "enum") name kind.Enum (flat_map label_calls cases)
  declared_calls (AliasOf name ty) =
      Keyword (codes "type") ∷ space ∷ Ty (escaped name) (alias_kind ty) ∷ Str (codes " = ") ∷ (alias_body_calls ty ++ (Semicolon ∷ []))
  declared_calls (ResourceOf name members) = Ty (codes "resource") kind.BuiltIn ∷ space ∷ Ty (escaped name) kind.Resource ∷ resource_body_calls members

  -- a `use` of another interface's types
  abbrev pub use_calls : Prefix → PathTree → List UsedName → List OutputCall
  use_calls prefix path names =
      prefix_calls prefix
      ++ (Keyword (codes "use") ∷ space ∷ (path_calls path
      ++ (Str (codes ".{") ∷ (separated (Str (codes ", ")) (map used_name_calls names)
      ++ (Str (codes "}") ∷ Semicolon ∷ [])))))

  -- a function under its name
  abbrev pub function_calls : Prefix → Text → TypeKind → SignatureTree → List OutputCall
  function_calls prefix name of_kind signature = prefix_calls prefix
      ++ (Ty (escaped name) of_kind ∷ Str (codes ": ") ∷ (signature_calls signature ++ (Semicolon ∷ [])))

  -- What an interface has, by whether its block has printed something already.
  abbrev pub members_calls : Bool → List MemberTree → List OutputCall
  members_calls printed [] = []
  members_calls printed (UseMember prefix path names ∷ members) = use_calls prefix path names ++ members_calls true members
  members_calls printed (TypeMember prefix declared ∷ members) =
      item_calls printed (prefix_calls prefix ++ declared_calls declared) ++ members_calls true members
  members_calls printed (FunctionMember prefix name signature ∷ members) =
      item_calls printed (function_calls prefix name kind.FunctionFreestanding signature) ++ members_calls true members

  -- what a world imports or exports, after the word `import` or `export`
  abbrev pub extern_calls : ExternTree → List OutputCall
  extern_calls (Path path) = path_calls path ++ (Semicolon ∷ [])
  extern_calls (NamedFunction name signature) = Ty (escaped name) kind.Other ∷ Str (codes ": ") ∷ (signature_calls signature ++ (Semicolon ∷ []))
  extern_calls (NamedPath name path) = Ty (escaped name) kind.Other ∷ Str (codes ": ") ∷ (path_calls path ++ (Semicolon ∷ []))
  extern_calls (NamedInterface name members) =
      Ty (escaped name) kind.Other ∷ Str (codes ": ") ∷ Keyword (codes "interface") ∷ IndentStart ∷ (members_calls false members ++ (IndentEnd ∷ []))

  -- an import or an export of a world
  abbrev pub world_extern_calls : Prefix → Text → ExternTree → List OutputCall
  world_extern_calls prefix word extern_ = prefix_calls prefix ++ (Keyword word ∷ space ∷ extern_calls extern_)

  -- What a world has, by whether its block has printed something already, and whether an export among it.
  -- Imports and exports have no empty line between them, but the first export has one before it.
  abbrev pub world_members_calls : Bool → Bool → List WorldMember → List OutputCall
  world_members_calls printed exported [] = []
  world_members_calls printed exported (WorldUse prefix path names ∷ members) = use_calls prefix path names ++ world_members_calls true exported members
  world_members_calls printed exported (WorldType prefix declared ∷ members) =
      item_calls printed (prefix_calls prefix ++ declared_calls declared) ++ world_members_calls true exported members
  world_members_calls printed exported (WorldImport prefix extern_ ∷ members) =
      world_extern_calls prefix (codes "import") extern_ ++ world_members_calls true exported members
  world_members_calls printed exported (WorldExport prefix extern_ ∷ members) =
      item_calls (printed && not exported) (world_extern_calls prefix (codes "export") extern_) ++ world_members_calls true true members

  -- an interface's documentation, gates and name
  abbrev pub interface_outer_calls : List Text → Gates → Text → List OutputCall
  interface_outer_calls docs gates name = doc_calls docs ++ gates_calls gates
      ++ (Keyword (codes "interface") ∷ space ∷ Ty (escaped name) kind.InterfaceDeclaration ∷ [])

  -- an interface or a world of a package
  abbrev pub package_item_calls : Bool → ItemTree → List OutputCall
  package_item_calls is_main (InterfaceItem docs gates name members) =
      interface_outer_calls docs gates name ++ (IndentStart ∷ (members_calls false members ++ (IndentEnd ∷ line_after_calls is_main)))
  package_item_calls is_main (WorldItem docs gates name members) =
      doc_calls docs ++ gates_calls gates ++ block_calls (codes "world") name kind.WorldDeclaration (world_members_calls false false members)

  -- a package's documentation and name
  abbrev pub package_outer_calls : PackageHead → List OutputCall
  package_outer_calls head = doc_calls head.docs ++ package_name_calls head.namespace head.name head.version

  -- a package: its documentation, its name and its items
  abbrev pub package_calls : Bool → PackageTree → List OutputCall
  package_calls is_main tree = package_outer_calls tree.head ++ package_start_calls is_main ++ flat_map (package_item_calls is_main) tree.items
      ++ package_end_calls is_main

  -- nested packages, each after two line ends
  abbrev pub more_nested_calls : List PackageTree → List OutputCall
  more_nested_calls [] = []
  more_nested_calls (tree ∷ trees) = Newline ∷ Newline ∷ (package_calls false tree ++ more_nested_calls trees)

  -- nested packages, the first with no line ends before it
  abbrev pub nested_calls : List PackageTree → List OutputCall
  nested_calls [] = []
  nested_calls (tree ∷ trees) = package_calls false tree ++ more_nested_calls trees

  -- a file: the main package, and then the nested ones
  abbrev pub file_calls : FileTree → List OutputCall
  file_calls file = package_calls true file.main ++ nested_calls file.nested
