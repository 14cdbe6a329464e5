-- The grammar of WIT text with documentation, from fields and items up (WIT.md, "Item: interface" to "Feature gates"). What stands within items, such as types
-- and signatures, is that of `print_grammar`. `docs` says which lines of documentation stand in front of the tokens that are left.
use Rattle.std.specs.Prelude.{◌≡◌, List, [], ◌∷◌, ℕ, Option, None, Some, codes}
use Rattle.wit_model.specs.Text.{Text}
use Rattle.print_grammar.specs.Keyword.{Keyword}
use Rattle.print_grammar.specs.Token.{Token}
use Rattle.print_grammar.specs.Token.Mark.{OpenBrace, CloseBrace, OpenParen, CloseParen, Colon, Semi, Equals, At}
use Rattle.print_grammar.specs.Token.Token.{Word, Key, Quoted, Punctuation}
use Rattle.print_grammar.specs.Tree.{TypeTree, Gates, Prefix, ParamTree, FieldTree, CaseTree, LabelTree, SignatureTree, ResourceMember, Declared, PathTree, UsedName, MemberTree, ExternTree, WorldMember, PackageHead}
use Rattle.print_grammar.specs.Tree.{Gates.Ungated, Gates.Since, Gates.Unstable, ResourceMember.Constructor, ResourceMember.Method, ResourceMember.Static}
use Rattle.print_grammar.specs.Tree.Declared.{RecordOf, VariantOf, FlagsOf, EnumOf, AliasOf, ResourceOf}
use Rattle.print_grammar.specs.Tree.{ExternTree.Path, ExternTree.NamedFunction, ExternTree.NamedPath, ExternTree.NamedInterface}
use Rattle.print_grammar.specs.Tree.WorldMember.{WorldUse, WorldType, WorldImport, WorldExport}
use Rattle.print_grammar.specs.Tree.{MemberTree.UseMember, MemberTree.TypeMember, MemberTree.FunctionMember}
use Rattle.text_trees.specs.TextTree.{NestedTree, TextItem, TextTree, WorldPart, TextItem.AnInterface, TextItem.AWorld, TextItem.AName, WorldPart.Has, WorldPart.Includes}
use Rattle.print_grammar.specs.Grammar.{IsId, Repeated, CommaList, ReadsType, ReadsParams, ReadsResult, ReadsSignature, ReadsVersionArgument, ReadsPath, ReadsUse, ReadsHead}

-- what documentation stands in front of the tokens that are left
abbrev pub Documentation : Type 0
Documentation = List Token → List Text

-- ---- in front of items

-- What attributes say: a version since which, a feature under which, a version since which it is deprecated, and the characters of an external id.
pub record Marks : Type 0 where
  pub since : Option Text
  pub unstable : Option Text
  pub deprecated : Option Text
  pub external_id : Option (List ℕ)

-- what none say
abbrev pub no_marks : Marks
no_marks = record { since = None; unstable = None; deprecated = None; external_id = None }

-- Attributes in any order, each once at most, and a version or a feature but not both (gate). They come to those before them.
pub data ReadsMarks : Marks → List Token → Marks → List Token → Type 0 where
  no_more : {marks : Marks} {after : List Token} → ReadsMarks marks after marks after
  since : {marks all : Marks} {label version : List ℕ} {before between after : List Token} → label ≡ codes "since" → marks.since ≡ None
      → marks.unstable ≡ None → ReadsVersionArgument before version between → ReadsMarks (record marks { since = Some version }) between all after
      → ReadsMarks marks (Punctuation At ∷ Word label ∷ before) all after
  unstable : {marks all : Marks} {label argument feature : List ℕ} {t : Token} {between after : List Token} → label ≡ codes "unstable"
      → argument ≡ codes "feature" → IsId t feature → marks.since ≡ None → marks.unstable ≡ None
      → ReadsMarks (record marks { unstable = Some feature }) between all after
      → ReadsMarks marks (Punctuation At ∷ Word label ∷ Punctuation OpenParen ∷ Word argument ∷ Punctuation Equals ∷ t ∷ Punctuation CloseParen
      ∷ between) all after
  deprecated : {marks all : Marks} {label version : List ℕ} {before between after : List Token} → label ≡ codes "deprecated" → marks.deprecated ≡ None
      → ReadsVersionArgument before version between → ReadsMarks (record marks { deprecated = Some version }) between all after
      → ReadsMarks marks (Punctuation At ∷ Word label ∷ before) all after
  external_id : {marks all : Marks} {label characters : List ℕ} {between after : List Token} → label ≡ codes "external-id" → marks.external_id ≡ None
      → ReadsMarks (record marks { external_id = Some characters }) between all after
      → ReadsMarks marks (Punctuation At ∷ Word label ∷ Punctuation OpenParen ∷ Quoted characters ∷ Punctuation CloseParen ∷ between) all after

-- the gates that a version, a feature and a deprecation are; a deprecation alone is none
abbrev pub gates_by : Option Text → Option Text → Option Text → Option Gates
gates_by None None None = Some Ungated
gates_by None None (Some version) = None
gates_by (Some version) None until = Some (Since version until)
gates_by None (Some feature) until = Some (Unstable feature until)
gates_by (Some version) (Some feature) until = None

-- the gates that attributes are
abbrev pub gates_of_marks : Marks → Option Gates
gates_of_marks marks = gates_by marks.since marks.unstable marks.deprecated

-- what stands in front of an item: documentation, gates and an external id
pub data ReadsPrefix (docs : Documentation) : List Token → Prefix → List Token → Type 0 where
  prefix : {before after : List Token} {gates : Gates} (marks : Marks) → ReadsMarks no_marks before marks after → gates_of_marks marks ≡ Some gates
      → ReadsPrefix docs before (record { docs = docs before; gates = gates; external_id = marks.external_id }) after

-- what stands in front of an interface or a world: gates alone
pub data ReadsGates : List Token → Gates → List Token → Type 0 where
  gates : {before after : List Token} {gates : Gates} (marks : Marks) → ReadsMarks no_marks before marks after → marks.external_id ≡ None
      → gates_of_marks marks ≡ Some gates → ReadsGates before gates after

-- ---- declared types

-- a record's field: a name, a colon and a type (record-field)
pub data ReadsField (docs : Documentation) : List Token → FieldTree → List Token → Type 0 where
  field : {t : Token} {label : List ℕ} {before after : List Token} {ty : TypeTree} → IsId t label → ReadsType before ty after
      → ReadsField docs (t ∷ Punctuation Colon ∷ before) (record { docs = docs (t ∷ Punctuation Colon ∷ before); name = label; ty = ty }) after

-- a variant's case: a name, and perhaps a payload in parentheses (variant-case)
pub data ReadsCase (docs : Documentation) : List Token → CaseTree → List Token → Type 0 where
  case_alone : {t : Token} {label : List ℕ} {after : List Token} → IsId t label
      → ReadsCase docs (t ∷ after) (record { docs = docs (t ∷ after); name = label; payload = None }) after
  case_of : {t : Token} {label : List ℕ} {before after : List Token} {ty : TypeTree} → IsId t label → ReadsType before ty (Punctuation CloseParen ∷ after)
      → ReadsCase docs (t ∷ Punctuation OpenParen ∷ before) (record { docs = docs (t ∷ Punctuation OpenParen ∷ before); name = label; payload = Some ty }) after

-- a flag or a case of an enum: a name (flags-field, enum-case)
pub data ReadsLabel (docs : Documentation) : List Token → LabelTree → List Token → Type 0 where
  label : {t : Token} {text : List ℕ} {after : List Token} → IsId t text → ReadsLabel docs (t ∷ after) (record { docs = docs (t ∷ after); name = text }) after

-- a function of a resource (resource-method)
pub data ReadsResourceMember (docs : Documentation) : List Token → ResourceMember → List Token → Type 0 where
  constructor_ : {before between middle after : List Token} {pre : Prefix} {params : List ParamTree} {result : Option TypeTree}
      → ReadsPrefix docs before pre (Key Keyword.Constructor ∷ between) → ReadsParams between params middle
      → ReadsResult middle result (Punctuation Semi ∷ after) → ReadsResourceMember docs before (Constructor pre params result) after
  method : {before between after : List Token} {t : Token} {label : List ℕ} {pre : Prefix} {signature : SignatureTree}
      → ReadsPrefix docs before pre (t ∷ Punctuation Colon ∷ between) → IsId t label → ReadsSignature between signature (Punctuation Semi ∷ after)
      → ReadsResourceMember docs before (Method pre label signature) after
  static : {before between after : List Token} {t : Token} {label : List ℕ} {pre : Prefix} {signature : SignatureTree}
      → ReadsPrefix docs before pre (t ∷ Punctuation Colon ∷ Key Keyword.Static ∷ between) → IsId t label
      → ReadsSignature between signature (Punctuation Semi ∷ after) → ReadsResourceMember docs before (Static pre label signature) after

-- a declared type (typedef-item)
pub data ReadsDeclared (docs : Documentation) : List Token → Declared → List Token → Type 0 where
  record_ : {t : Token} {label : List ℕ} {before after : List Token} {fields : List FieldTree} → IsId t label
      → CommaList (ReadsField docs) (Punctuation CloseBrace) before fields after
      → ReadsDeclared docs (Key Keyword.Record ∷ t ∷ Punctuation OpenBrace ∷ before) (RecordOf label fields) after
  variant : {t : Token} {label : List ℕ} {before after : List Token} {cases : List CaseTree} → IsId t label
      → CommaList (ReadsCase docs) (Punctuation CloseBrace) before cases after
      → ReadsDeclared docs (Key Keyword.Variant ∷ t ∷ Punctuation OpenBrace ∷ before) (VariantOf label cases) after
  flags : {t : Token} {label : List ℕ} {before after : List Token} {flags : List LabelTree} → IsId t label
      → CommaList (ReadsLabel docs) (Punctuation CloseBrace) before flags after
      → ReadsDeclared docs (Key Keyword.Flags ∷ t ∷ Punctuation OpenBrace ∷ before) (FlagsOf label flags) after
  enum : {t : Token} {label : List ℕ} {before after : List Token} {cases : List LabelTree} → IsId t label
      → CommaList (ReadsLabel docs) (Punctuation CloseBrace) before cases after
      → ReadsDeclared docs (Key Keyword.Enum ∷ t ∷ Punctuation OpenBrace ∷ before) (EnumOf label cases) after
  alias : {t : Token} {label : List ℕ} {before after : List Token} {ty : TypeTree} → IsId t label → ReadsType before ty (Punctuation Semi ∷ after)
      → ReadsDeclared docs (Key Keyword.Type_ ∷ t ∷ Punctuation Equals ∷ before) (AliasOf label ty) after
  resource : {t : Token} {label : List ℕ} {after : List Token} → IsId t label
      → ReadsDeclared docs (Key Keyword.Resource ∷ t ∷ Punctuation Semi ∷ after) (ResourceOf label []) after
  resource_with : {t : Token} {label : List ℕ} {before after : List Token} {members : List ResourceMember} → IsId t label
      → Repeated (ReadsResourceMember docs) (Punctuation CloseBrace) before members after
      → ReadsDeclared docs (Key Keyword.Resource ∷ t ∷ Punctuation OpenBrace ∷ before) (ResourceOf label members) after

-- ---- interfaces and worlds

-- what an interface has: a use, a declared type or a function (interface-items)
pub data ReadsMember (docs : Documentation) : List Token → MemberTree → List Token → Type 0 where
  member_use : {before between after : List Token} {pre : Prefix} {path : PathTree} {names : List UsedName} → ReadsPrefix docs before pre between
      → ReadsUse between path names after → ReadsMember docs before (UseMember pre path names) after
  member_type : {before between after : List Token} {pre : Prefix} {declared : Declared} → ReadsPrefix docs before pre between
      → ReadsDeclared docs between declared after → ReadsMember docs before (TypeMember pre declared) after
  member_function : {before between after : List Token} {t : Token} {label : List ℕ} {pre : Prefix} {signature : SignatureTree}
      → ReadsPrefix docs before pre (t ∷ Punctuation Colon ∷ between) → IsId t label → ReadsSignature between signature (Punctuation Semi ∷ after)
      → ReadsMember docs before (FunctionMember pre label signature) after

-- what a world imports or exports: a path, or a name with a function, a path or an interface (extern-type)
pub data ReadsExtern (docs : Documentation) : List Token → ExternTree → List Token → Type 0 where
  extern_path : {before after : List Token} {path : PathTree} → ReadsPath before path (Punctuation Semi ∷ after) → ReadsExtern docs before (Path path) after
  extern_function : {before after : List Token} {t : Token} {label : List ℕ} {signature : SignatureTree} → IsId t label
      → ReadsSignature before signature (Punctuation Semi ∷ after) → ReadsExtern docs (t ∷ Punctuation Colon ∷ before) (NamedFunction label signature) after
  extern_named_path : {before after : List Token} {t : Token} {label : List ℕ} {path : PathTree} → IsId t label
      → ReadsPath before path (Punctuation Semi ∷ after) → ReadsExtern docs (t ∷ Punctuation Colon ∷ before) (NamedPath label path) after
  extern_interface : {before after : List Token} {t : Token} {label : List ℕ} {members : List MemberTree} → IsId t label
      → Repeated (ReadsMember docs) (Punctuation CloseBrace) before members after
      → ReadsExtern docs (t ∷ Punctuation Colon ∷ Key Keyword.Interface ∷ Punctuation OpenBrace ∷ before) (NamedInterface label members) after

-- what a world has: a use, a declared type, an import or an export (world-items)
pub data ReadsWorldMember (docs : Documentation) : List Token → WorldMember → List Token → Type 0 where
  world_use : {before between after : List Token} {pre : Prefix} {path : PathTree} {names : List UsedName} → ReadsPrefix docs before pre between
      → ReadsUse between path names after → ReadsWorldMember docs before (WorldUse pre path names) after
  world_type : {before between after : List Token} {pre : Prefix} {declared : Declared} → ReadsPrefix docs before pre between
      → ReadsDeclared docs between declared after → ReadsWorldMember docs before (WorldType pre declared) after
  world_import : {before between after : List Token} {pre : Prefix} {e : ExternTree} → ReadsPrefix docs before pre (Key Keyword.Import ∷ between)
      → ReadsExtern docs between e after → ReadsWorldMember docs before (WorldImport pre e) after
  world_export : {before between after : List Token} {pre : Prefix} {e : ExternTree} → ReadsPrefix docs before pre (Key Keyword.Export ∷ between)
      → ReadsExtern docs between e after → ReadsWorldMember docs before (WorldExport pre e) after

-- a name, and another after `as` (include-names-item)
pub data ReadsOtherName : List Token → UsedName → List Token → Type 0 where
  other_name : {t u : Token} {label own : List ℕ} {after : List Token} → IsId t label → IsId u own
      → ReadsOtherName (t ∷ Key Keyword.As ∷ u ∷ after) (record { other = label; own = Some own }) after

-- what follows `include`: a path and `;`, or a path, other names in braces and perhaps `;` (include-item)
pub data ReadsInclusion : List Token → PathTree → List UsedName → List Token → Type 0 where
  all_of : {before after : List Token} {path : PathTree} → ReadsPath before path (Punctuation Semi ∷ after) → ReadsInclusion before path [] after
  all_with : {before middle after : List Token} {path : PathTree} {names : List UsedName}
      → ReadsPath before path (Key Keyword.With ∷ Punctuation OpenBrace ∷ middle)
      → CommaList ReadsOtherName (Punctuation CloseBrace) middle names after → ReadsInclusion before path names after
  all_with_end : {before middle after : List Token} {path : PathTree} {names : List UsedName}
      → ReadsPath before path (Key Keyword.With ∷ Punctuation OpenBrace ∷ middle)
      → CommaList ReadsOtherName (Punctuation CloseBrace) middle names (Punctuation Semi ∷ after) → ReadsInclusion before path names after

-- what a world of a text has: what a world has, or an inclusion (world-items)
pub data ReadsPart (docs : Documentation) : List Token → WorldPart → List Token → Type 0 where
  has : {before after : List Token} {it : WorldMember} → ReadsWorldMember docs before it after → ReadsPart docs before (Has it) after
  includes : {before between after : List Token} {pre : Prefix} {path : PathTree} {names : List UsedName}
      → ReadsPrefix docs before pre (Key Keyword.Include ∷ between) → ReadsInclusion between path names after
      → ReadsPart docs before (Includes pre path names) after

-- an interface, a world, or a name for the one that a path means (package-items, toplevel-use-item)
pub data ReadsItem (docs : Documentation) : List Token → TextItem → List Token → Type 0 where
  interface_item : {before between after : List Token} {t : Token} {label : List ℕ} {gates : Gates} {members : List MemberTree}
      → ReadsGates before gates (Key Keyword.Interface ∷ t ∷ Punctuation OpenBrace ∷ between) → IsId t label
      → Repeated (ReadsMember docs) (Punctuation CloseBrace) between members after
      → ReadsItem docs before (AnInterface (docs before) gates label members) after
  world_item : {before between after : List Token} {t : Token} {label : List ℕ} {gates : Gates} {parts : List WorldPart}
      → ReadsGates before gates (Key Keyword.World ∷ t ∷ Punctuation OpenBrace ∷ between) → IsId t label
      → Repeated (ReadsPart docs) (Punctuation CloseBrace) between parts after
      → ReadsItem docs before (AWorld (docs before) gates label parts) after
  name_item : {before after : List Token} {path : PathTree} → ReadsPath before path (Punctuation Semi ∷ after)
      → ReadsItem docs (Key Keyword.Use ∷ before) (AName path None) after
  other_name_item : {before after : List Token} {t : Token} {label : List ℕ} {path : PathTree}
      → ReadsPath before path (Key Keyword.As ∷ t ∷ Punctuation Semi ∷ after) → IsId t label
      → ReadsItem docs (Key Keyword.Use ∷ before) (AName path (Some label)) after

-- ---- packages and texts

-- a package nested in the text (nested-package-definition)
pub data ReadsNested (docs : Documentation) : List Token → NestedTree → List Token → Type 0 where
  nested_package : {before middle after : List Token} {head : PackageHead} {items : List TextItem} → ReadsHead before head (Punctuation OpenBrace ∷ middle)
      → Repeated (ReadsItem docs) (Punctuation CloseBrace) middle items after
      → ReadsNested docs (Key Keyword.Package ∷ before) (record { head = record head { docs = docs (Key Keyword.Package ∷ before) }; items = items }) after

-- items and nested packages, in any order, and nothing more
pub data ReadsRest (docs : Documentation) : List Token → List TextItem → List NestedTree → Type 0 where
  rest_end : ReadsRest docs [] [] []
  next_item : {before between : List Token} {item : TextItem} {items : List TextItem} {nested : List NestedTree} → ReadsItem docs before item between
      → ReadsRest docs between items nested → ReadsRest docs before (item ∷ items) nested
  next_nested : {before between : List Token} {items : List TextItem} {it : NestedTree} {nested : List NestedTree} → ReadsNested docs before it between
      → ReadsRest docs between items nested → ReadsRest docs before items (it ∷ nested)

-- a text: the name of its package, if it says so, and then items and nested packages (wit-file)
pub data ReadsText (docs : Documentation) : List Token → TextTree → Type 0 where
  with_name : {before middle : List Token} {head : PackageHead} {items : List TextItem} {nested : List NestedTree}
      → ReadsHead before head (Punctuation Semi ∷ middle) → ReadsRest docs middle items nested
      → ReadsText docs (Key Keyword.Package ∷ before)
      (record { head = Some (record head { docs = docs (Key Keyword.Package ∷ before) }); items = items; nested = nested })
  without_name : {before : List Token} {items : List TextItem} {nested : List NestedTree} → ReadsRest docs before items nested
      → ReadsText docs before (record { head = None; items = items; nested = nested })
