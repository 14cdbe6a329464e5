-- What trees of the code are by the grammar, in the text that their spans are of.
use Rattle.std.specs.Prelude.{ℕ, suc, List, [], map}
use Rattle.std.specs.Option.{option_map}
use Rattle.wit_model.specs.Text.{Text}
use Rattle.print_grammar.specs.Tree.{TypeTree, TypeTrees, Gates, Prefix, ParamTree, SignatureTree, PathTree, UsedName, FieldTree, CaseTree, LabelTree, ResourceMember, Declared, MemberTree, ExternTree, WorldMember, PackageHead}
use Rattle.print_grammar.specs.Tree.Declared.{RecordOf, VariantOf, FlagsOf, EnumOf, AliasOf, ResourceOf}
use Rattle.text_trees.specs.declared.tree.Declared.{Declared as CodeDeclared}
use Rattle.text_trees.specs.declared.tree.Declared.TheVariants as sorts
use Rattle.print_grammar.specs.Tree.{PathTree.Local, PathTree.Full, ResourceMember.Constructor, ResourceMember.Method, ResourceMember.Static}
use Rattle.print_grammar.specs.Tree.{Gates.Ungated, Gates.Since, Gates.Unstable}
use Rattle.text_trees.specs.declared.tree.Gates.{Gates as CodeGates}
use Rattle.text_trees.specs.declared.tree.Gates.TheVariants as gates
use Rattle.text_trees.specs.declared.tree.PathTree.{PathTree as CodePath}
use Rattle.text_trees.specs.declared.tree.PathTree.TheVariants as paths
use Rattle.text_trees.specs.declared.tree.ResourceMember.{ResourceMember as CodeResourceMember}
use Rattle.text_trees.specs.declared.tree.ResourceMember.TheVariants as members
use Rattle.print_grammar.specs.Tree.{MemberTree.UseMember, MemberTree.TypeMember, MemberTree.FunctionMember}
use Rattle.print_grammar.specs.Tree.{ExternTree.Path, ExternTree.NamedFunction, ExternTree.NamedPath, ExternTree.NamedInterface}
use Rattle.print_grammar.specs.Tree.WorldMember.{WorldUse, WorldType, WorldImport, WorldExport}
use Rattle.text_trees.specs.declared.tree.MemberTree.{MemberTree as CodeMember}
use Rattle.text_trees.specs.declared.tree.MemberTree.TheVariants as member
use Rattle.text_trees.specs.declared.tree.ExternTree.{ExternTree as CodeExtern}
use Rattle.text_trees.specs.declared.tree.ExternTree.TheVariants as extern
use Rattle.text_trees.specs.declared.tree.WorldMember.{WorldMember as CodeWorldMember}
use Rattle.text_trees.specs.declared.tree.WorldMember.TheVariants as world
use Rattle.text_trees.specs.declared.tree.{PackageHead.PackageHead as CodeHead}
use Rattle.text_trees.specs.declared.tree.{Prefix.Prefix as CodePrefix, UsedName.UsedName as CodeUsed, FieldTree.FieldTree as CodeField, CaseTree.CaseTree as CodeCase, LabelTree.LabelTree as CodeLabel, ParamTree.ParamTree as CodeParam, SignatureTree.SignatureTree as CodeSignature}
use Rattle.print_grammar.specs.Tree.TypeTree.{PrimitiveType, Name, Own, Borrow, TupleOf, OptionOf, ListOf, FixedListOf, MapOf, Result, ResultOk, ResultErr, ResultOf, Future, FutureOf, Stream, StreamOf}
use Rattle.print_grammar.specs.Tree.TypeTrees.{NoTypes, AndTypes}
use Rattle.text_trees.specs.declared.tree.TypeTree.{TypeTree as CodeTree, PrimitiveType as PrimitiveType', Name as Name', Own as Own', Borrow as Borrow', Result as Result', Future as Future', Stream as Stream', TupleOf', OptionOf', ListOf', FixedListOf', MapOf', ResultOk', ResultErr', ResultOf', FutureOf', StreamOf', Row_of-TypeTree, end_of-TypeTree, more_of-TypeTree}
use Rattle.print_grammar.specs.Token.{Token, Mark.Less, Mark.Greater, Mark.Colon, Mark.Semi, Mark.Equals, Mark.OpenBrace, Mark.CloseBrace}
use Rattle.print_grammar.specs.Keyword.{Keyword}
use Rattle.text_tokens.specs.Documentation.{docs_in}
use Rattle.text_trees.specs.Grammar.{Documentation, Marks}
use Rattle.text_trees.specs.declared.{prefix.Marks.Marks as CodeMarks, tree.Span.Span}
use Rattle.text_trees.specs.ReadDeclared.{case_in_front, declared_in_front, use_behind, field_in_front, function_behind, label_in_front, named, resource_behind}
use Rattle.text_trees.specs.Reading.{Reading, Reading.Found, behind_mark, id_in_front, if_key, if_mark, listed, made, then_read}
use Rattle.text_trees.specs.ReadTypes.{type_in_front, in_brackets, list_in_front, map_in_front, payload_in_front, result_parts_in_front, tuple_types}
use Rattle.text_trees.specs.ReadFiles.{extern_path_behind, members_in_front}
use Rattle.text_trees.specs.declared.types.Form.{Form}
use Rattle.text_trees.specs.declared.sorts.Sort.{Sort}
use Rattle.text_trees.specs.declared.sorts.Sort.TheVariants as sort
use Rattle.text_trees.specs.declared.types.Form.TheVariants as form
use Rattle.text_trees.specs.declared.types.Async.{Async}
use Rattle.text_trees.specs.declared.types.Async.TheVariants as async
use Rattle.text_trees.specs.Seen.{characters_of, cut, number_of, primitive_there}

abbrev mutual
  -- a type
  pub type_of : Text → CodeTree → TypeTree
  type_of text (PrimitiveType' p) = PrimitiveType (primitive_there p)
  type_of text (Name' span) = Name (cut text span)
  type_of text (Own' span) = Own (cut text span)
  type_of text (Borrow' span) = Borrow (cut text span)
  type_of text (TupleOf' shape row) = TupleOf (row_of_types text row)
  type_of text (OptionOf' p ty) = OptionOf (type_of text ty)
  type_of text (ListOf' p ty) = ListOf (type_of text ty)
  type_of text (FixedListOf' p ty digits) = FixedListOf (type_of text ty) (number_of (cut text digits))
  type_of text (MapOf' p k q v) = MapOf (type_of text k) (type_of text v)
  type_of text Result' = Result
  type_of text (ResultOk' p ty) = ResultOk (type_of text ty)
  type_of text (ResultErr' p ty) = ResultErr (type_of text ty)
  type_of text (ResultOf' p a q b) = ResultOf (type_of text a) (type_of text b)
  type_of text Future' = Future
  type_of text (FutureOf' p ty) = FutureOf (type_of text ty)
  type_of text Stream' = Stream
  type_of text (StreamOf' p ty) = StreamOf (type_of text ty)

  -- the types of a tuple
  pub row_of_types : {m : _} → Text → Row_of-TypeTree m → TypeTrees
  row_of_types text end_of-TypeTree = NoTypes
  row_of_types text (more_of-TypeTree ty row) = AndTypes (type_of text ty) (row_of_types text row)

-- a future or a stream alone
abbrev pub alone_of : Async → TypeTree
alone_of async.Future = Future
alone_of async.Stream = Stream

-- a future or a stream of values of a type
abbrev pub carrying : Async → TypeTree → TypeTree
carrying async.Future ty = FutureOf ty
carrying async.Stream ty = StreamOf ty

-- a result behind its word
abbrev pub result_form_in_front : (List Token → Reading TypeTree) → List Token → Reading TypeTree
result_form_in_front read = if_mark Less (result_parts_in_front read) (Found Result)

-- what follows the keyword of a form
abbrev pub form_behind : Form → (List Token → Reading TypeTree) → List Token → Reading TypeTree
form_behind form.Own read ts = made Own (in_brackets id_in_front ts)
form_behind form.Borrow read ts = made Borrow (in_brackets id_in_front ts)
form_behind form.Tuple read ts = behind_mark Less (λ rest. made (λ types. TupleOf (tuple_types types)) (listed read Greater rest)) ts
form_behind form.Option read ts = made OptionOf (in_brackets read ts)
form_behind form.List read ts = list_in_front read ts
form_behind form.Map read ts = map_in_front read ts
form_behind form.Result read ts = result_form_in_front read ts
form_behind (form.Async which) read ts = payload_in_front (alone_of which) (carrying which) read ts

-- a parameter
abbrev pub param_of : Text → CodeParam → ParamTree
param_of text param = record { name = cut text param.name; ty = type_of text param.ty }

-- a function's type
abbrev pub signature_of : Text → CodeSignature → SignatureTree
signature_of text signature =
    record { is_async = signature.is_async; params = map (param_of text) signature.params.items; result = option_map (type_of text) signature.result }

-- ---- in front of items

-- feature gates
abbrev pub gates_of : Text → CodeGates → Gates
gates_of text gates.Ungated = Ungated
gates_of text (gates.Since version deprecated) = Since (cut text version) (option_map (cut text) deprecated)
gates_of text (gates.Unstable feature deprecated) = Unstable (cut text feature) (option_map (cut text) deprecated)

-- what attributes say so far
abbrev pub marks_of : Text → CodeMarks → Marks
marks_of text marks =
    record {
      since = option_map (cut text) marks.since;
      unstable = option_map (cut text) marks.unstable;
      deprecated = option_map (cut text) marks.deprecated;
      external_id = option_map (λ span. characters_of (cut text span)) marks.external_id;
    }

-- the lines of documentation in a gap
abbrev pub docs_of : Text → Span → List Text
docs_of text gap = docs_in (cut text gap)

-- what stands in front of an item
abbrev pub prefix_of : Text → CodePrefix → Prefix
prefix_of text prefix =
    record {
      docs = docs_of text prefix.docs;
      gates = gates_of text prefix.gates;
      external_id =
          option_map (λ span. characters_of (cut text span)) prefix.external_id;
    }

-- ---- paths and uses

-- a path
abbrev pub path_of : Text → CodePath → PathTree
path_of text (paths.Local name) = Local (cut text name)
path_of text (paths.Full namespace name interface version) = Full (cut text namespace) (cut text name) (cut text interface) (option_map (cut text) version)

-- a name that is used
abbrev pub used_name_of : Text → CodeUsed → UsedName
used_name_of text used = record { other = cut text used.other; own = option_map (cut text) used.own }

-- ---- declared types

-- a field of a record
abbrev pub field_of : Text → CodeField → FieldTree
field_of text field = record { docs = docs_of text field.docs; name = cut text field.name; ty = type_of text field.ty }

-- a case of a variant
abbrev pub case_of : Text → CodeCase → CaseTree
case_of text c = record { docs = docs_of text c.docs; name = cut text c.name; payload = option_map (type_of text) c.payload }

-- a flag, or a case of an enum
abbrev pub label_of : Text → CodeLabel → LabelTree
label_of text label = record { docs = docs_of text label.docs; name = cut text label.name }

-- what a resource has
abbrev pub resource_member_of : Text → CodeResourceMember → ResourceMember
resource_member_of text (members.Constructor prefix params result) =
    Constructor (prefix_of text prefix) (map (param_of text) params.items) (option_map (type_of text) result)
resource_member_of text (members.Method prefix name signature) = Method (prefix_of text prefix) (cut text name) (signature_of text signature)
resource_member_of text (members.Static prefix name signature) = Static (prefix_of text prefix) (cut text name) (signature_of text signature)

-- a function of a resource that is no constructor
abbrev pub method_in_front : ℕ → Prefix → List Token → Reading ResourceMember
method_in_front room prefix ts =
    then_read (id_in_front ts) (λ name rest.
    behind_mark Colon (if_key Keyword.Static (function_behind room (Static prefix name)) (function_behind room (Method prefix name))) rest)

-- a declared type
abbrev pub declared_of : Text → CodeDeclared → Declared
declared_of text (sorts.RecordOf name fields) = RecordOf (cut text name) (map (field_of text) fields.items)
declared_of text (sorts.VariantOf name cases) = VariantOf (cut text name) (map (case_of text) cases.items)
declared_of text (sorts.FlagsOf name flags) = FlagsOf (cut text name) (map (label_of text) flags.items)
declared_of text (sorts.EnumOf name cases) = EnumOf (cut text name) (map (label_of text) cases.items)
declared_of text (sorts.AliasOf name ty) = AliasOf (cut text name) (type_of text ty)
declared_of text (sorts.ResourceOf name functions) = ResourceOf (cut text name) (map (resource_member_of text) functions.items)

-- a name, and things in braces with commas between
abbrev pub braced : {X : Type 0} → (Text → List X → Declared) → (List Token → Reading X) → List Token → Reading Declared
braced of read = named (λ name. behind_mark OpenBrace (λ rest. made (of name) (listed read CloseBrace rest)))

-- what follows `type`
abbrev pub alias_in_front : ℕ → List Token → Reading Declared
alias_in_front room =
    named (λ name. behind_mark Equals (λ rest. then_read (type_in_front (suc room) rest) (λ ty rest. behind_mark Semi (Found (AliasOf name ty)) rest)))

-- what follows `resource`
abbrev pub resource_in_front : Documentation → ℕ → List Token → Reading Declared
resource_in_front docs room = named (resource_behind docs room)

-- what follows the word of a sort
abbrev pub declared_behind : Sort → Documentation → ℕ → List Token → Reading Declared
declared_behind sort.Record docs room = braced RecordOf (field_in_front docs room)
declared_behind sort.Variant docs room = braced VariantOf (case_in_front docs room)
declared_behind sort.Flags docs room = braced FlagsOf (label_in_front docs)
declared_behind sort.Enum docs room = braced EnumOf (label_in_front docs)
declared_behind sort.Alias docs room = alias_in_front room
declared_behind sort.Resource docs room = resource_in_front docs room

-- ---- interfaces, worlds, packages and files

-- what an interface has
abbrev pub member_of : Text → CodeMember → MemberTree
member_of text (member.UseMember prefix path names) = UseMember (prefix_of text prefix) (path_of text path) (map (used_name_of text) names.items)
member_of text (member.TypeMember prefix declared) = TypeMember (prefix_of text prefix) (declared_of text declared)
member_of text (member.FunctionMember prefix name signature) = FunctionMember (prefix_of text prefix) (cut text name) (signature_of text signature)

-- what a world imports or exports
abbrev pub extern_of : Text → CodeExtern → ExternTree
extern_of text (extern.Path path) = Path (path_of text path)
extern_of text (extern.NamedFunction name signature) = NamedFunction (cut text name) (signature_of text signature)
extern_of text (extern.NamedPath name path) = NamedPath (cut text name) (path_of text path)
extern_of text (extern.NamedInterface name members) = NamedInterface (cut text name) (map (member_of text) members.items)

-- what a world has
abbrev pub world_member_of : Text → CodeWorldMember → WorldMember
world_member_of text (world.WorldUse prefix path names) = WorldUse (prefix_of text prefix) (path_of text path) (map (used_name_of text) names.items)
world_member_of text (world.WorldType prefix declared) = WorldType (prefix_of text prefix) (declared_of text declared)
world_member_of text (world.WorldImport prefix it) = WorldImport (prefix_of text prefix) (extern_of text it)
world_member_of text (world.WorldExport prefix it) = WorldExport (prefix_of text prefix) (extern_of text it)

-- what names a package
abbrev pub head_of : Text → CodeHead → PackageHead
head_of text head = record { docs = []; namespace = cut text head.namespace; name = cut text head.name; version = option_map (cut text) head.version }

-- what an interface has that begins with no name, behind what stands in front of it
abbrev pub other_behind : Documentation → ℕ → Prefix → List Token → Reading MemberTree
other_behind docs room prefix = if_key Keyword.Use (use_behind (UseMember prefix)) (λ rest. made (TypeMember prefix) (declared_in_front docs room rest))

-- what follows a name and a colon in a world and begins with no signature: an interface or a path
abbrev pub extern_other_behind : Documentation → ℕ → Text → List Token → Reading ExternTree
extern_other_behind docs room name =
    if_key Keyword.Interface (λ rest. made (NamedInterface name) (members_in_front docs room rest)) (named (extern_path_behind name))

-- what a world has that is no import and no export, behind what stands in front of it
abbrev pub world_other_behind : Documentation → ℕ → Prefix → List Token → Reading WorldMember
world_other_behind docs room prefix = if_key Keyword.Use (use_behind (WorldUse prefix)) (λ rest. made (WorldType prefix) (declared_in_front docs room rest))
