-- Trees whose ids are labels, whose versions are versions, and whose parts are there: what can be written so that it is read again.
use Rattle.std.specs.Prelude.{Bool, true, false, List, ◌&&◌, nat_lt, length, ◌^◌}
use Rattle.std.specs.List.{list_all}
use lib.Utf8.{scalar}
use Rattle.wit_model.specs.{Names.is_label, Names.is_version_text, Rules.passes}
use Rattle.print_output.specs.OutputCall.{is_one_line}
use Rattle.print_grammar.specs.Tree.{TypeTree, TypeTrees, Gates, Prefix, ParamTree, FieldTree, CaseTree, LabelTree, SignatureTree, ResourceMember, Declared, PathTree, UsedName, MemberTree, ExternTree, WorldMember, ItemTree, PackageHead, PackageTree, FileTree}
use Rattle.print_grammar.specs.Tree.{ResourceMember.Constructor, ResourceMember.Method, ResourceMember.Static, Gates.Ungated, Gates.Since, Gates.Unstable}
use Rattle.print_grammar.specs.Tree.Declared.{RecordOf, VariantOf, FlagsOf, EnumOf, AliasOf, ResourceOf}
use Rattle.print_grammar.specs.Tree.{PathTree.Local, PathTree.Full, ExternTree.Path, ExternTree.NamedFunction, ExternTree.NamedPath, ExternTree.NamedInterface}
use Rattle.print_grammar.specs.Tree.{MemberTree.UseMember, MemberTree.TypeMember, MemberTree.FunctionMember, ItemTree.InterfaceItem, ItemTree.WorldItem}
use Rattle.print_grammar.specs.Tree.WorldMember.{WorldUse, WorldType, WorldImport, WorldExport}
use Rattle.print_grammar.specs.Tree.TypeTree.{PrimitiveType, Name, Handle, Own, Borrow, TupleOf, OptionOf, ListOf, FixedListOf, MapOf, Result, ResultOk, ResultErr, ResultOf, Future, FutureOf, Stream, StreamOf}
use Rattle.print_grammar.specs.Tree.TypeTrees.{NoTypes, AndTypes}

abbrev mutual
  pub is_well_type : TypeTree → Bool
  is_well_type (PrimitiveType p) = true
  is_well_type (Name name) = is_label name
  is_well_type (Handle resource) = is_label resource
  is_well_type (Own resource) = is_label resource
  is_well_type (Borrow resource) = is_label resource
  is_well_type (TupleOf types) = are_well_types types
  is_well_type (OptionOf ty) = is_well_type ty
  is_well_type (ListOf ty) = is_well_type ty
  is_well_type (FixedListOf ty length) = is_well_type ty && nat_lt length (2 ^ 64)
  is_well_type (MapOf key value) = is_well_type key && is_well_type value
  is_well_type Result = true
  is_well_type (ResultOk ok) = is_well_type ok
  is_well_type (ResultErr err) = is_well_type err
  is_well_type (ResultOf ok err) = is_well_type ok && is_well_type err
  is_well_type Future = true
  is_well_type (FutureOf ty) = is_well_type ty
  is_well_type Stream = true
  is_well_type (StreamOf ty) = is_well_type ty

  -- a type and more
  pub are_well_types : TypeTrees → Bool
  are_well_types NoTypes = false
  are_well_types (AndTypes ty types) = is_well_type ty && are_well_more types

  pub are_well_more : TypeTrees → Bool
  are_well_more NoTypes = true
  are_well_more (AndTypes ty types) = is_well_type ty && are_well_more types

abbrev pub is_well_param : ParamTree → Bool
is_well_param param = is_label param.name && is_well_type param.ty

abbrev pub is_well_signature : SignatureTree → Bool
is_well_signature signature = list_all is_well_param signature.params && passes is_well_type signature.result

-- ---- in front of an item

abbrev pub is_well_gates : Gates → Bool
is_well_gates Ungated = true
is_well_gates (Since version deprecated) = is_version_text version && passes is_version_text deprecated
is_well_gates (Unstable feature deprecated) = is_label feature && passes is_version_text deprecated

-- lines, versions, a label, and characters
abbrev pub is_well_prefix : Prefix → Bool
is_well_prefix prefix = list_all is_one_line prefix.docs && (is_well_gates prefix.gates && passes (list_all scalar) prefix.external_id)

-- ---- paths and uses

abbrev pub is_well_path : PathTree → Bool
is_well_path (Local interface) = is_label interface
is_well_path (Full namespace name interface version) = is_label namespace && (is_label name && (is_label interface && passes is_version_text version))

abbrev pub is_well_used : UsedName → Bool
is_well_used used = is_label used.other && passes is_label used.own

-- one entry and more, each of which passes the test
abbrev pub are_well_some : {X : Type 0} → (X → Bool) → List X → Bool
are_well_some test xs = nat_lt 0 (length xs) && list_all test xs

abbrev pub is_well_use : PathTree → List UsedName → Bool
is_well_use path names = is_well_path path && are_well_some is_well_used names

-- ---- declared types

abbrev pub is_well_field : FieldTree → Bool
is_well_field field = list_all is_one_line field.docs && (is_label field.name && is_well_type field.ty)

abbrev pub is_well_case : CaseTree → Bool
is_well_case c = list_all is_one_line c.docs && (is_label c.name && passes is_well_type c.payload)

abbrev pub is_well_label : LabelTree → Bool
is_well_label label = list_all is_one_line label.docs && is_label label.name

abbrev pub is_well_resource_member : ResourceMember → Bool
is_well_resource_member (Constructor prefix params result) = is_well_prefix prefix && (list_all is_well_param params && passes is_well_type result)
is_well_resource_member (Method prefix name signature) = is_well_prefix prefix && (is_label name && is_well_signature signature)
is_well_resource_member (Static prefix name signature) = is_well_prefix prefix && (is_label name && is_well_signature signature)

abbrev pub is_well_declared : Declared → Bool
is_well_declared (RecordOf name fields) = is_label name && are_well_some is_well_field fields
is_well_declared (VariantOf name cases) = is_label name && are_well_some is_well_case cases
is_well_declared (FlagsOf name flags) = is_label name && are_well_some is_well_label flags
is_well_declared (EnumOf name cases) = is_label name && are_well_some is_well_label cases
is_well_declared (AliasOf name ty) = is_label name && is_well_type ty
is_well_declared (ResourceOf name members) = is_label name && list_all is_well_resource_member members

-- ---- what interfaces, worlds and packages have

abbrev pub is_well_member : MemberTree → Bool
is_well_member (UseMember prefix path names) = is_well_prefix prefix && is_well_use path names
is_well_member (TypeMember prefix declared) = is_well_prefix prefix && is_well_declared declared
is_well_member (FunctionMember prefix name signature) = is_well_prefix prefix && (is_label name && is_well_signature signature)

abbrev pub is_well_extern : ExternTree → Bool
is_well_extern (Path path) = is_well_path path
is_well_extern (NamedFunction name signature) = is_label name && is_well_signature signature
is_well_extern (NamedPath name path) = is_label name && is_well_path path
is_well_extern (NamedInterface name members) = is_label name && list_all is_well_member members

abbrev pub is_well_world_member : WorldMember → Bool
is_well_world_member (WorldUse prefix path names) = is_well_prefix prefix && is_well_use path names
is_well_world_member (WorldType prefix declared) = is_well_prefix prefix && is_well_declared declared
is_well_world_member (WorldImport prefix extern_) = is_well_prefix prefix && is_well_extern extern_
is_well_world_member (WorldExport prefix extern_) = is_well_prefix prefix && is_well_extern extern_

abbrev pub is_well_item : ItemTree → Bool
is_well_item (InterfaceItem docs gates name members) = list_all is_one_line docs && (is_well_gates gates && (is_label name && list_all is_well_member members))
is_well_item (WorldItem docs gates name members) = list_all is_one_line docs
    && (is_well_gates gates && (is_label name && list_all is_well_world_member members))

abbrev pub is_well_head : PackageHead → Bool
is_well_head head = list_all is_one_line head.docs && (is_label head.namespace && (is_label head.name && passes is_version_text head.version))

abbrev pub is_well_package : PackageTree → Bool
is_well_package tree = is_well_head tree.head && list_all is_well_item tree.items

-- Names are labels, versions are versions, lines of documentation are lines, and lists that are written with commas hold something.
abbrev pub is_well_file : FileTree → Bool
is_well_file file = is_well_package file.main && list_all is_well_package file.nested
