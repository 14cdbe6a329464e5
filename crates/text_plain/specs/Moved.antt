-- What a world has, as another one that includes it has it: with other names for some of it, and with paths that mean the same from the other package
-- (WIT.md, "Item: include").
use Rattle.std.specs.Prelude.{◌&&◌, Bool, List, [], ◌∷◌, map, Option, Some, option_map, unwrap_or, if◌then◌else◌}
use Rattle.std.specs.Option.{option_eq}
use Rattle.wit_model.specs.Text.{Text, text_eq}
use Rattle.print_grammar.specs.Tree.{TypeTree, TypeTrees, ParamTree, FieldTree, CaseTree, SignatureTree, ResourceMember, Declared, PathTree, UsedName, MemberTree, ExternTree, WorldMember, PackageHead}
use Rattle.print_grammar.specs.Tree.TypeTree.{PrimitiveType, Name, Handle, Own, Borrow, TupleOf, OptionOf, ListOf, FixedListOf, MapOf, Result, ResultOk, ResultErr, ResultOf, Future, FutureOf, Stream, StreamOf}
use Rattle.print_grammar.specs.Tree.{TypeTrees.NoTypes, TypeTrees.AndTypes, MemberTree.UseMember, MemberTree.TypeMember, MemberTree.FunctionMember}
use Rattle.print_grammar.specs.Tree.{ResourceMember.Constructor, ResourceMember.Method, ResourceMember.Static, PathTree.Local, PathTree.Full}
use Rattle.print_grammar.specs.Tree.Declared.{RecordOf, VariantOf, FlagsOf, EnumOf, AliasOf, ResourceOf}
use Rattle.print_grammar.specs.Tree.ExternTree.{Path, NamedFunction, NamedPath, NamedInterface}
use Rattle.print_grammar.specs.Tree.WorldMember.{WorldUse, WorldType, WorldImport, WorldExport}

-- ---- names and paths

-- what a name is called where these have other names
abbrev pub renamed : List UsedName → Text → Text
renamed [] name = name
renamed (used ∷ names) name = if text_eq used.other name then unwrap_or used.own name else renamed names name

-- the path that a name stands for, or the path itself
abbrev pub routed : List (Text × PathTree) → PathTree → PathTree
routed [] path = path
routed (entry ∷ entries) (Local name) = if text_eq entry.0 name then entry.1 else routed entries (Local name)
routed (entry ∷ entries) (Full namespace name interface version) = Full namespace name interface version

-- whether two packages have the same name
abbrev pub same_head : PackageHead → PackageHead → Bool
same_head a b = text_eq a.namespace b.namespace && text_eq a.name b.name && option_eq text_eq a.version b.version

-- a path of a package, as another package has it
abbrev pub seen_from : PackageHead → PackageHead → PathTree → PathTree
seen_from home here (Local name) = if same_head home here then Local name else Full home.namespace home.name name home.version
seen_from home here (Full namespace name interface version) = Full namespace name interface version

-- ---- with other names for types

module _ (on_name : Text → Text) where
  abbrev mutual
    -- a type
    pub moved_type : TypeTree → TypeTree
    moved_type (PrimitiveType p) = PrimitiveType p
    moved_type (Name name) = Name (on_name name)
    moved_type (Handle resource) = Handle (on_name resource)
    moved_type (Own resource) = Own (on_name resource)
    moved_type (Borrow resource) = Borrow (on_name resource)
    moved_type (TupleOf types) = TupleOf (moved_types types)
    moved_type (OptionOf ty) = OptionOf (moved_type ty)
    moved_type (ListOf ty) = ListOf (moved_type ty)
    moved_type (FixedListOf ty length) = FixedListOf (moved_type ty) length
    moved_type (MapOf key value) = MapOf (moved_type key) (moved_type value)
    moved_type Result = Result
    moved_type (ResultOk ok) = ResultOk (moved_type ok)
    moved_type (ResultErr err) = ResultErr (moved_type err)
    moved_type (ResultOf ok err) = ResultOf (moved_type ok) (moved_type err)
    moved_type Future = Future
    moved_type (FutureOf ty) = FutureOf (moved_type ty)
    moved_type Stream = Stream
    moved_type (StreamOf ty) = StreamOf (moved_type ty)

    -- the types of a tuple
    pub moved_types : TypeTrees → TypeTrees
    moved_types NoTypes = NoTypes
    moved_types (AndTypes ty types) = AndTypes (moved_type ty) (moved_types types)

  -- a parameter
  abbrev pub moved_param : ParamTree → ParamTree
  moved_param param = record param { ty = moved_type param.ty }

  -- a function's type
  abbrev pub moved_signature : SignatureTree → SignatureTree
  moved_signature s = record { is_async = s.is_async; params = map moved_param s.params; result = option_map moved_type s.result }

  -- a field
  abbrev pub moved_field : FieldTree → FieldTree
  moved_field field = record field { ty = moved_type field.ty }

  -- a case
  abbrev pub moved_case : CaseTree → CaseTree
  moved_case c = record c { payload = option_map moved_type c.payload }

  -- a function of a resource
  abbrev pub moved_resource_member : ResourceMember → ResourceMember
  moved_resource_member (Constructor prefix params result) = Constructor prefix (map moved_param params) (option_map moved_type result)
  moved_resource_member (Method prefix name s) = Method prefix name (moved_signature s)
  moved_resource_member (Static prefix name s) = Static prefix name (moved_signature s)

  -- a declared type, and its own name
  abbrev pub moved_declared : Declared → Declared
  moved_declared (RecordOf name fields) = RecordOf (on_name name) (map moved_field fields)
  moved_declared (VariantOf name cases) = VariantOf (on_name name) (map moved_case cases)
  moved_declared (FlagsOf name flags) = FlagsOf (on_name name) flags
  moved_declared (EnumOf name cases) = EnumOf (on_name name) cases
  moved_declared (AliasOf name ty) = AliasOf (on_name name) (moved_type ty)
  moved_declared (ResourceOf name members) = ResourceOf (on_name name) (map moved_resource_member members)

  -- a name that is used, by what it is called here: it is called otherwise if that has another name
  abbrev pub moved_used : UsedName → UsedName
  moved_used used = record { other = used.other; own = moved_own (unwrap_or used.own used.other) }
    where
      moved_own : Text → Option Text
      moved_own here = if text_eq (on_name here) here then used.own else Some (on_name here)

-- ---- with other paths

-- what an interface has
abbrev pub moved_member : (PathTree → PathTree) → MemberTree → MemberTree
moved_member on_path (UseMember prefix path names) = UseMember prefix (on_path path) names
moved_member on_path (TypeMember prefix declared) = TypeMember prefix declared
moved_member on_path (FunctionMember prefix name s) = FunctionMember prefix name s

-- what a world imports or exports
abbrev pub moved_extern : (Text → Text) → (PathTree → PathTree) → ExternTree → ExternTree
moved_extern on_name on_path (Path path) = Path (on_path path)
moved_extern on_name on_path (NamedFunction name s) = NamedFunction (on_name name) (moved_signature on_name s)
moved_extern on_name on_path (NamedPath name path) = NamedPath (on_name name) (on_path path)
moved_extern on_name on_path (NamedInterface name members) = NamedInterface (on_name name) (map (moved_member on_path) members)

-- what a world has
abbrev pub moved_world_member : (Text → Text) → (PathTree → PathTree) → WorldMember → WorldMember
moved_world_member on_name on_path (WorldUse prefix path names) = WorldUse prefix (on_path path) (map (moved_used on_name) names)
moved_world_member on_name on_path (WorldType prefix declared) = WorldType prefix (moved_declared on_name declared)
moved_world_member on_name on_path (WorldImport prefix e) = WorldImport prefix (moved_extern on_name on_path e)
moved_world_member on_name on_path (WorldExport prefix e) = WorldExport prefix (moved_extern on_name on_path e)
