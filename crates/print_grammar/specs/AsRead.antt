-- What a reader finds of a tree that was written (WIT.md, "Comments" and "Types"): no documentation, and an owned resource's name in place of its handle.
use Rattle.std.specs.Prelude.{[], map, option_map}
use Rattle.print_grammar.specs.Tree.{TypeTree, TypeTrees, Prefix, ParamTree, FieldTree, CaseTree, LabelTree, SignatureTree, ResourceMember, Declared, MemberTree, ExternTree, WorldMember, ItemTree, PackageTree, FileTree}
use Rattle.print_grammar.specs.Tree.TypeTree.{PrimitiveType, Name, Handle, Own, Borrow, TupleOf, OptionOf, ListOf, FixedListOf, MapOf, Result, ResultOk, ResultErr, ResultOf, Future, FutureOf, Stream, StreamOf}
use Rattle.print_grammar.specs.Tree.{TypeTrees.NoTypes, TypeTrees.AndTypes, MemberTree.UseMember, MemberTree.TypeMember, MemberTree.FunctionMember}
use Rattle.print_grammar.specs.Tree.{ResourceMember.Constructor, ResourceMember.Method, ResourceMember.Static, ItemTree.InterfaceItem, ItemTree.WorldItem}
use Rattle.print_grammar.specs.Tree.Declared.{RecordOf, VariantOf, FlagsOf, EnumOf, AliasOf, ResourceOf}
use Rattle.print_grammar.specs.Tree.ExternTree.{Path, NamedFunction, NamedPath, NamedInterface}
use Rattle.print_grammar.specs.Tree.WorldMember.{WorldUse, WorldType, WorldImport, WorldExport}

abbrev mutual
  -- a type as it is read: an owned resource by its name alone
  pub type_as_read : TypeTree → TypeTree
  type_as_read (PrimitiveType p) = PrimitiveType p
  type_as_read (Name name) = Name name
  type_as_read (Handle resource) = Name resource
  type_as_read (Own resource) = Own resource
  type_as_read (Borrow resource) = Borrow resource
  type_as_read (TupleOf types) = TupleOf (types_as_read types)
  type_as_read (OptionOf ty) = OptionOf (type_as_read ty)
  type_as_read (ListOf ty) = ListOf (type_as_read ty)
  type_as_read (FixedListOf ty length) = FixedListOf (type_as_read ty) length
  type_as_read (MapOf key value) = MapOf (type_as_read key) (type_as_read value)
  type_as_read Result = Result
  type_as_read (ResultOk ok) = ResultOk (type_as_read ok)
  type_as_read (ResultErr err) = ResultErr (type_as_read err)
  type_as_read (ResultOf ok err) = ResultOf (type_as_read ok) (type_as_read err)
  type_as_read Future = Future
  type_as_read (FutureOf ty) = FutureOf (type_as_read ty)
  type_as_read Stream = Stream
  type_as_read (StreamOf ty) = StreamOf (type_as_read ty)

  -- the types of a tuple as they are read
  pub types_as_read : TypeTrees → TypeTrees
  types_as_read NoTypes = NoTypes
  types_as_read (AndTypes ty types) = AndTypes (type_as_read ty) (types_as_read types)

-- A tree without its documentation, with a function on each type.
module _ (on_type : TypeTree → TypeTree) where
  -- what stands in front of an item, without documentation
  abbrev pub bare_prefix : Prefix → Prefix
  bare_prefix prefix = record prefix { docs = [] }

  -- a parameter
  abbrev pub bare_param : ParamTree → ParamTree
  bare_param param = record param { ty = on_type param.ty }

  -- a field of a record, without documentation
  abbrev pub bare_field : FieldTree → FieldTree
  bare_field field = record { docs = []; name = field.name; ty = on_type field.ty }

  -- a case of a variant, without documentation
  abbrev pub bare_case : CaseTree → CaseTree
  bare_case c = record { docs = []; name = c.name; payload = option_map on_type c.payload }

  -- a flag or a case of an enum, without documentation
  abbrev pub bare_label : LabelTree → LabelTree
  bare_label label = record label { docs = [] }

  -- a function's type
  abbrev pub bare_signature : SignatureTree → SignatureTree
  bare_signature signature =
      record { is_async = signature.is_async; params = map bare_param signature.params; result = option_map on_type signature.result }

  -- a function of a resource, without documentation
  abbrev pub bare_resource_member : ResourceMember → ResourceMember
  bare_resource_member (Constructor prefix params result) = Constructor (bare_prefix prefix) (map bare_param params) (option_map on_type result)
  bare_resource_member (Method prefix name signature) = Method (bare_prefix prefix) name (bare_signature signature)
  bare_resource_member (Static prefix name signature) = Static (bare_prefix prefix) name (bare_signature signature)

  -- a declared type, without documentation
  abbrev pub bare_declared : Declared → Declared
  bare_declared (RecordOf name fields) = RecordOf name (map bare_field fields)
  bare_declared (VariantOf name cases) = VariantOf name (map bare_case cases)
  bare_declared (FlagsOf name flags) = FlagsOf name (map bare_label flags)
  bare_declared (EnumOf name cases) = EnumOf name (map bare_label cases)
  bare_declared (AliasOf name ty) = AliasOf name (on_type ty)
  bare_declared (ResourceOf name members) = ResourceOf name (map bare_resource_member members)

  -- a member of an interface, without documentation
  abbrev pub bare_member : MemberTree → MemberTree
  bare_member (UseMember prefix path names) = UseMember (bare_prefix prefix) path names
  bare_member (TypeMember prefix declared) = TypeMember (bare_prefix prefix) (bare_declared declared)
  bare_member (FunctionMember prefix name signature) = FunctionMember (bare_prefix prefix) name (bare_signature signature)

  -- what a world imports or exports, without documentation
  abbrev pub bare_extern : ExternTree → ExternTree
  bare_extern (Path path) = Path path
  bare_extern (NamedFunction name signature) = NamedFunction name (bare_signature signature)
  bare_extern (NamedPath name path) = NamedPath name path
  bare_extern (NamedInterface name members) = NamedInterface name (map bare_member members)

  -- a member of a world, without documentation
  abbrev pub bare_world_member : WorldMember → WorldMember
  bare_world_member (WorldUse prefix path names) = WorldUse (bare_prefix prefix) path names
  bare_world_member (WorldType prefix declared) = WorldType (bare_prefix prefix) (bare_declared declared)
  bare_world_member (WorldImport prefix extern_) = WorldImport (bare_prefix prefix) (bare_extern extern_)
  bare_world_member (WorldExport prefix extern_) = WorldExport (bare_prefix prefix) (bare_extern extern_)

  -- an interface or a world, without documentation
  abbrev pub bare_item : ItemTree → ItemTree
  bare_item (InterfaceItem docs gates name members) = InterfaceItem [] gates name (map bare_member members)
  bare_item (WorldItem docs gates name members) = WorldItem [] gates name (map bare_world_member members)

  -- a package, without documentation
  abbrev pub bare_package : PackageTree → PackageTree
  bare_package tree = record { head = record tree.head { docs = [] }; items = map bare_item tree.items }

  -- a file, without documentation
  abbrev pub bare_file : FileTree → FileTree
  bare_file file = record { main = bare_package file.main; nested = map bare_package file.nested }

-- what a reader finds of a file that was written
abbrev pub file_as_read : FileTree → FileTree
file_as_read file = bare_file type_as_read file
