-- How many levels the types of a tree have (WIT.md, Types): none a primitive type and a name, and one more than its deepest part every other form.
-- `room` is how many levels a type may have where it is used. What `type NAME = ..` declares may have one more: validity bounds the levels without a name,
-- and the outermost level of a named type has one. So a valid package can be printed with an alias of 101 levels, and its text is read again.
use Rattle.std.specs.Prelude.{Bool, true, ◌&&◌, ℕ, nat_le, suc, max}
use Rattle.std.specs.List.{list_all}
use Rattle.wit_model.specs.Rules.{passes}
use Rattle.print_grammar.specs.Tree.{TypeTree, TypeTrees, ParamTree, FieldTree, CaseTree, SignatureTree, ResourceMember, Declared, MemberTree, ExternTree, WorldMember}
use Rattle.print_grammar.specs.Tree.{ResourceMember.Constructor, ResourceMember.Method, ResourceMember.Static}
use Rattle.print_grammar.specs.Tree.Declared.{RecordOf, VariantOf, FlagsOf, EnumOf, AliasOf, ResourceOf}
use Rattle.print_grammar.specs.Tree.{ExternTree.Path, ExternTree.NamedFunction, ExternTree.NamedPath, ExternTree.NamedInterface}
use Rattle.print_grammar.specs.Tree.{MemberTree.UseMember, MemberTree.TypeMember, MemberTree.FunctionMember}
use Rattle.print_grammar.specs.Tree.WorldMember.{WorldUse, WorldType, WorldImport, WorldExport}
use Rattle.text_trees.specs.TextTree.{NestedTree, TextItem, TextTree, WorldPart, TextItem.AnInterface, TextItem.AWorld, TextItem.AName, WorldPart.Has, WorldPart.Includes}
use Rattle.print_grammar.specs.Tree.TypeTree.{PrimitiveType, Name, Handle, Own, Borrow, TupleOf, OptionOf, ListOf, FixedListOf, MapOf, Result, ResultOk, ResultErr, ResultOf, Future, FutureOf, Stream, StreamOf}
use Rattle.print_grammar.specs.Tree.TypeTrees.{NoTypes, AndTypes}

abbrev mutual
  -- the levels of a type
  pub levels : TypeTree → ℕ
  levels (PrimitiveType p) = 0
  levels (Name name) = 0
  levels (Handle resource) = 0
  levels (Own resource) = 1
  levels (Borrow resource) = 1
  levels (TupleOf types) = suc (deepest types)
  levels (OptionOf ty) = suc (levels ty)
  levels (ListOf ty) = suc (levels ty)
  levels (FixedListOf ty length) = suc (levels ty)
  levels (MapOf key value) = suc (max (levels key) (levels value))
  levels Result = 1
  levels (ResultOk ok) = suc (levels ok)
  levels (ResultErr err) = suc (levels err)
  levels (ResultOf ok err) = suc (max (levels ok) (levels err))
  levels Future = 1
  levels (FutureOf ty) = suc (levels ty)
  levels Stream = 1
  levels (StreamOf ty) = suc (levels ty)

  -- the most levels of these types
  pub deepest : TypeTrees → ℕ
  deepest NoTypes = 0
  deepest (AndTypes ty types) = max (levels ty) (deepest types)

-- ---- whether no type has more levels than `room` where it is used, and no alias more than one beyond

abbrev pub fits_type : ℕ → TypeTree → Bool
fits_type room ty = nat_le (levels ty) room

abbrev pub fits_param : ℕ → ParamTree → Bool
fits_param room param = fits_type room param.ty

abbrev pub fits_signature : ℕ → SignatureTree → Bool
fits_signature room signature = list_all (fits_param room) signature.params && passes (fits_type room) signature.result

abbrev pub fits_field : ℕ → FieldTree → Bool
fits_field room field = fits_type room field.ty

abbrev pub fits_case : ℕ → CaseTree → Bool
fits_case room c = passes (fits_type room) c.payload

abbrev pub fits_resource_member : ℕ → ResourceMember → Bool
fits_resource_member room (Constructor prefix params result) = list_all (fits_param room) params && passes (fits_type room) result
fits_resource_member room (Method prefix name signature) = fits_signature room signature
fits_resource_member room (Static prefix name signature) = fits_signature room signature

abbrev pub fits_declared : ℕ → Declared → Bool
fits_declared room (RecordOf name fields) = list_all (fits_field room) fields
fits_declared room (VariantOf name cases) = list_all (fits_case room) cases
fits_declared room (FlagsOf name flags) = true
fits_declared room (EnumOf name cases) = true
fits_declared room (AliasOf name ty) = fits_type (suc room) ty
fits_declared room (ResourceOf name members) = list_all (fits_resource_member room) members

abbrev pub fits_member : ℕ → MemberTree → Bool
fits_member room (UseMember prefix path names) = true
fits_member room (TypeMember prefix declared) = fits_declared room declared
fits_member room (FunctionMember prefix name signature) = fits_signature room signature

abbrev pub fits_extern : ℕ → ExternTree → Bool
fits_extern room (Path path) = true
fits_extern room (NamedFunction name signature) = fits_signature room signature
fits_extern room (NamedPath name path) = true
fits_extern room (NamedInterface name members) = list_all (fits_member room) members

abbrev pub fits_world_member : ℕ → WorldMember → Bool
fits_world_member room (WorldUse prefix path names) = true
fits_world_member room (WorldType prefix declared) = fits_declared room declared
fits_world_member room (WorldImport prefix extern_) = fits_extern room extern_
fits_world_member room (WorldExport prefix extern_) = fits_extern room extern_

abbrev pub fits_part : ℕ → WorldPart → Bool
fits_part room (Has it) = fits_world_member room it
fits_part room (Includes prefix path names) = true

abbrev pub fits_item : ℕ → TextItem → Bool
fits_item room (AnInterface docs gates name members) = list_all (fits_member room) members
fits_item room (AWorld docs gates name parts) = list_all (fits_part room) parts
fits_item room (AName path own) = true

abbrev pub fits_nested : ℕ → NestedTree → Bool
fits_nested room tree = list_all (fits_item room) tree.items

-- No type of the text has more levels than `room` where it is used, and no alias more than one beyond.
abbrev pub fits_text : ℕ → TextTree → Bool
fits_text room tree = list_all (fits_item room) tree.items && list_all (fits_nested room) tree.nested
