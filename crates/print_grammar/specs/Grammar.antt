-- The grammar of WIT text (WIT.md, Package declaration to Item: type), one case for each alternative.
-- Each relation says which tree stands at the front of a list of tokens, and which tokens follow it: `ReadsType before tree after`.
use Rattle.std.specs.Prelude.{◌≡◌, true, false, List, [], ◌∷◌, ℕ, Option, None, Some, codes}
use Rattle.print_grammar.specs.{Keyword.Keyword, Keyword.PrimitiveName, Tree.TypeTrees.NoTypes, Tree.TypeTrees.AndTypes}
use Rattle.print_grammar.specs.{Token.Token, Tree.WorldMember.WorldUse, Tree.WorldMember.WorldType, Tree.WorldMember.WorldImport, Tree.WorldMember.WorldExport}
use Rattle.print_grammar.specs.Token.Mark.{OpenBrace, CloseBrace, OpenParen, CloseParen, Less, Greater, Colon, Semi, Comma, Dot, Equals, Slash, At, Arrow}
use Rattle.print_grammar.specs.Token.Token.{Word, Escaped, Key, VersionText, Digits, Quoted, Punctuation}
use Rattle.print_grammar.specs.Tree.{TypeTree, TypeTrees, Gates, Prefix, ParamTree, FieldTree, CaseTree, LabelTree, SignatureTree, ResourceMember, Declared, PathTree, UsedName, MemberTree, ExternTree, WorldMember, ItemTree, PackageHead, PackageTree, FileTree}
use Rattle.print_grammar.specs.Tree.{Gates.Ungated, Gates.Since, Gates.Unstable, ResourceMember.Constructor, ResourceMember.Method, ResourceMember.Static}
use Rattle.print_grammar.specs.Tree.Declared.{RecordOf, VariantOf, FlagsOf, EnumOf, AliasOf, ResourceOf}
use Rattle.print_grammar.specs.Tree.{PathTree.Local, PathTree.Full, ExternTree.Path, ExternTree.NamedFunction, ExternTree.NamedPath, ExternTree.NamedInterface}
use Rattle.print_grammar.specs.Tree.{MemberTree.UseMember, MemberTree.TypeMember, MemberTree.FunctionMember, ItemTree.InterfaceItem, ItemTree.WorldItem}

-- An id is a word that is no keyword, or any word after `%`.
pub data IsId : Token → List ℕ → Type 0 where
  plain : {label : List ℕ} → IsId (Word label) label
  with_percent : {label : List ℕ} → IsId (Escaped label) label

-- things one after the other, up to a closing token
pub data Repeated {X : Type 0} (Reads : List Token → X → List Token → Type 0) (close : Token) : List Token → List X → List Token → Type 0 where
  closed : {after : List Token} → Repeated Reads close (close ∷ after) [] after
  again : {before between after : List Token} {x : X} {xs : List X} → Reads before x between → Repeated Reads close between xs after
      → Repeated Reads close before (x ∷ xs) after

-- things with commas between, at least one, and a comma more allowed, up to a closing token
pub data CommaList {X : Type 0} (Reads : List Token → X → List Token → Type 0) (close : Token) : List Token → List X → List Token → Type 0 where
  last : {before after : List Token} {x : X} → Reads before x (close ∷ after) → CommaList Reads close before (x ∷ []) after
  last_with_comma : {before after : List Token} {x : X} → Reads before x (Punctuation Comma ∷ close ∷ after) → CommaList Reads close before (x ∷ []) after
  next : {before between after : List Token} {x : X} {xs : List X} → Reads before x (Punctuation Comma ∷ between) → CommaList Reads close between xs after
      → CommaList Reads close before (x ∷ xs) after

mutual
  -- a type where it is used (ty)
  pub data ReadsType : List Token → TypeTree → List Token → Type 0 where
    primitive : {p : PrimitiveName} {after : List Token} → ReadsType (Key (Keyword.PrimitiveWord p) ∷ after) (TypeTree.PrimitiveType p) after
    named : {label : List ℕ} {after : List Token} → ReadsType (Word label ∷ after) (TypeTree.Name label) after
    named_with_percent : {label : List ℕ} {after : List Token} → ReadsType (Escaped label ∷ after) (TypeTree.Name label) after
    own : {t : Token} {label : List ℕ} {after : List Token} → IsId t label
        → ReadsType (Key Keyword.Own ∷ Punctuation Less ∷ t ∷ Punctuation Greater ∷ after) (TypeTree.Own label) after
    borrow : {t : Token} {label : List ℕ} {after : List Token} → IsId t label
        → ReadsType (Key Keyword.Borrow ∷ Punctuation Less ∷ t ∷ Punctuation Greater ∷ after) (TypeTree.Borrow label) after
    tuple : {before after : List Token} {types : TypeTrees} → ReadsTypes before types after
        → ReadsType (Key Keyword.Tuple ∷ Punctuation Less ∷ before) (TypeTree.TupleOf types) after
    option : {before after : List Token} {ty : TypeTree} → ReadsType before ty (Punctuation Greater ∷ after)
        → ReadsType (Key Keyword.Option_ ∷ Punctuation Less ∷ before) (TypeTree.OptionOf ty) after
    map : {before between after : List Token} {k v : TypeTree} → ReadsType before k (Punctuation Comma ∷ between)
        → ReadsType between v (Punctuation Greater ∷ after) → ReadsType (Key Keyword.Map ∷ Punctuation Less ∷ before) (TypeTree.MapOf k v) after
    list : {before after : List Token} {ty : TypeTree} → ReadsType before ty (Punctuation Greater ∷ after)
        → ReadsType (Key Keyword.List_ ∷ Punctuation Less ∷ before) (TypeTree.ListOf ty) after
    fixed_list : {before after : List Token} {ty : TypeTree} {n : ℕ} → ReadsType before ty (Punctuation Comma ∷ Digits n ∷ Punctuation Greater ∷ after)
        → ReadsType (Key Keyword.List_ ∷ Punctuation Less ∷ before) (TypeTree.FixedListOf ty n) after
    future : {after : List Token} → ReadsType (Key Keyword.Future ∷ after) TypeTree.Future after
    future_of : {before after : List Token} {ty : TypeTree} → ReadsType before ty (Punctuation Greater ∷ after)
        → ReadsType (Key Keyword.Future ∷ Punctuation Less ∷ before) (TypeTree.FutureOf ty) after
    stream : {after : List Token} → ReadsType (Key Keyword.Stream ∷ after) TypeTree.Stream after
    stream_of : {before after : List Token} {ty : TypeTree} → ReadsType before ty (Punctuation Greater ∷ after)
        → ReadsType (Key Keyword.Stream ∷ Punctuation Less ∷ before) (TypeTree.StreamOf ty) after
    result : {after : List Token} → ReadsType (Key Keyword.Result ∷ after) TypeTree.Result after
    result_ok : {before after : List Token} {ok : TypeTree} → ReadsType before ok (Punctuation Greater ∷ after)
        → ReadsType (Key Keyword.Result ∷ Punctuation Less ∷ before) (TypeTree.ResultOk ok) after
    result_of : {before between after : List Token} {ok err : TypeTree} → ReadsType before ok (Punctuation Comma ∷ between)
        → ReadsType between err (Punctuation Greater ∷ after) → ReadsType (Key Keyword.Result ∷ Punctuation Less ∷ before) (TypeTree.ResultOf ok err) after
    result_err : {before after : List Token} {err : TypeTree} → ReadsType before err (Punctuation Greater ∷ after)
        → ReadsType (Key Keyword.Result ∷ Punctuation Less ∷ Key Keyword.Underscore ∷ Punctuation Comma ∷ before) (TypeTree.ResultErr err) after

  -- types with commas between, up to `>`
  pub data ReadsTypes : List Token → TypeTrees → List Token → Type 0 where
    last_type : {before after : List Token} {ty : TypeTree} → ReadsType before ty (Punctuation Greater ∷ after) → ReadsTypes before (AndTypes ty NoTypes) after
    last_type_with_comma : {before after : List Token} {ty : TypeTree} → ReadsType before ty (Punctuation Comma ∷ Punctuation Greater ∷ after)
        → ReadsTypes before (AndTypes ty NoTypes) after
    next_type : {before between after : List Token} {ty : TypeTree} {types : TypeTrees} → ReadsType before ty (Punctuation Comma ∷ between)
        → ReadsTypes between types after → ReadsTypes before (AndTypes ty types) after

-- a parameter: a name, a colon and a type (named-type)
pub data ReadsParam : List Token → ParamTree → List Token → Type 0 where
  param : {t : Token} {label : List ℕ} {before after : List Token} {ty : TypeTree} → IsId t label → ReadsType before ty after
      → ReadsParam (t ∷ Punctuation Colon ∷ before) (record { name = label; ty = ty }) after

-- parameters in parentheses (param-list)
pub data ReadsParams : List Token → List ParamTree → List Token → Type 0 where
  no_params : {after : List Token} → ReadsParams (Punctuation OpenParen ∷ Punctuation CloseParen ∷ after) [] after
  params : {before after : List Token} {params : List ParamTree} → CommaList ReadsParam (Punctuation CloseParen) before params after
      → ReadsParams (Punctuation OpenParen ∷ before) params after

-- an arrow and a type, or nothing (result-list)
pub data ReadsResult : List Token → Option TypeTree → List Token → Type 0 where
  no_result : {after : List Token} → ReadsResult after None after
  with_result : {before after : List Token} {ty : TypeTree} → ReadsType before ty after → ReadsResult (Punctuation Arrow ∷ before) (Some ty) after

-- a function's type (func-type)
pub data ReadsSignature : List Token → SignatureTree → List Token → Type 0 where
  func : {before between after : List Token} {params : List ParamTree} {result : Option TypeTree} → ReadsParams before params between
      → ReadsResult between result after → ReadsSignature (Key Keyword.Func ∷ before) (record { is_async = false; params = params; result = result }) after
  async_func : {before between after : List Token} {params : List ParamTree} {result : Option TypeTree} → ReadsParams before params between
      → ReadsResult between result after → ReadsSignature (Key Keyword.Async ∷ Key Keyword.Func ∷ before)
      (record { is_async = true; params = params; result = result }) after

-- `@` and a version, or nothing
pub data ReadsVersion : List Token → Option (List ℕ) → List Token → Type 0 where
  no_version : {after : List Token} → ReadsVersion after None after
  with_version : {version : List ℕ} {after : List Token} → ReadsVersion (Punctuation At ∷ VersionText version ∷ after) (Some version) after

-- a version in parentheses: `(version = 1.2.3)` (version-field)
pub data ReadsVersionArgument : List Token → List ℕ → List Token → Type 0 where
  version_argument : {version label : List ℕ} {after : List Token} → label ≡ codes "version"
      → ReadsVersionArgument (Punctuation OpenParen ∷ Word label ∷ Punctuation Equals ∷ VersionText version ∷ Punctuation CloseParen ∷ after) version after

-- a deprecation and its version, or nothing (deprecated-gate)
pub data ReadsDeprecated : List Token → Option (List ℕ) → List Token → Type 0 where
  not_deprecated : {after : List Token} → ReadsDeprecated after None after
  deprecated : {label version : List ℕ} {before after : List Token} → label ≡ codes "deprecated" → ReadsVersionArgument before version after
      → ReadsDeprecated (Punctuation At ∷ Word label ∷ before) (Some version) after

-- feature gates, or none (gate)
pub data ReadsGates : List Token → Gates → List Token → Type 0 where
  no_gates : {after : List Token} → ReadsGates after Ungated after
  since : {label version : List ℕ} {before between after : List Token} {d : Option (List ℕ)} → label ≡ codes "since"
      → ReadsVersionArgument before version between → ReadsDeprecated between d after
      → ReadsGates (Punctuation At ∷ Word label ∷ before) (Since version d) after
  unstable : {label argument feature : List ℕ} {t : Token} {between after : List Token} {d : Option (List ℕ)} → label ≡ codes "unstable"
      → argument ≡ codes "feature" → IsId t feature → ReadsDeprecated between d after
      → ReadsGates (Punctuation At ∷ Word label ∷ Punctuation OpenParen ∷ Word argument ∷ Punctuation Equals ∷ t ∷ Punctuation CloseParen ∷ between)
      (Unstable feature d) after

-- an external id, or nothing: `@external-id("..")`
pub data ReadsExternalId : List Token → Option (List ℕ) → List Token → Type 0 where
  no_external_id : {after : List Token} → ReadsExternalId after None after
  external_id : {label characters : List ℕ} {after : List Token} → label ≡ codes "external-id"
      → ReadsExternalId (Punctuation At ∷ Word label ∷ Punctuation OpenParen ∷ Quoted characters ∷ Punctuation CloseParen ∷ after) (Some characters) after

-- what stands in front of an item: gates and an external id
pub data ReadsPrefix : List Token → Prefix → List Token → Type 0 where
  prefix : {before between after : List Token} {gates : Gates} {external_id : Option (List ℕ)} → ReadsGates before gates between
      → ReadsExternalId between external_id after → ReadsPrefix before (record { docs = []; gates = gates; external_id = external_id }) after

-- a path: a name alone, or with its package and perhaps a version (use-path)
pub data ReadsPath : List Token → PathTree → List Token → Type 0 where
  local : {t : Token} {label : List ℕ} {after : List Token} → IsId t label → ReadsPath (t ∷ after) (Local label) after
  full : {t u v : Token} {namespace name interface : List ℕ} {version : Option (List ℕ)} {between after : List Token} → IsId t namespace → IsId u name
      → IsId v interface → ReadsVersion between version after
      → ReadsPath (t ∷ Punctuation Colon ∷ u ∷ Punctuation Slash ∷ v ∷ between) (Full namespace name interface version) after

-- a name that is used, and perhaps another after `as` (use-names-item)
pub data ReadsUsedName : List Token → UsedName → List Token → Type 0 where
  same_name : {t : Token} {label : List ℕ} {after : List Token} → IsId t label → ReadsUsedName (t ∷ after) (record { other = label; own = None }) after
  other_name : {t u : Token} {label own : List ℕ} {after : List Token} → IsId t label → IsId u own
      → ReadsUsedName (t ∷ Key Keyword.As ∷ u ∷ after) (record { other = label; own = Some own }) after

-- a use of another interface's types (use-item)
pub data ReadsUse : List Token → PathTree → List UsedName → List Token → Type 0 where
  use_names : {before between after : List Token} {path : PathTree} {names : List UsedName}
      → ReadsPath before path (Punctuation Dot ∷ Punctuation OpenBrace ∷ between)
      → CommaList ReadsUsedName (Punctuation CloseBrace) between names (Punctuation Semi ∷ after) → ReadsUse (Key Keyword.Use ∷ before) path names after

-- a record's field: a name, a colon and a type (record-field)
pub data ReadsField : List Token → FieldTree → List Token → Type 0 where
  field : {t : Token} {label : List ℕ} {before after : List Token} {ty : TypeTree} → IsId t label → ReadsType before ty after
      → ReadsField (t ∷ Punctuation Colon ∷ before) (record { docs = []; name = label; ty = ty }) after

-- a variant's case: a name, and perhaps a payload in parentheses (variant-case)
pub data ReadsCase : List Token → CaseTree → List Token → Type 0 where
  case_alone : {t : Token} {label : List ℕ} {after : List Token} → IsId t label
      → ReadsCase (t ∷ after) (record { docs = []; name = label; payload = None }) after
  case_of : {t : Token} {label : List ℕ} {before after : List Token} {ty : TypeTree} → IsId t label → ReadsType before ty (Punctuation CloseParen ∷ after)
      → ReadsCase (t ∷ Punctuation OpenParen ∷ before) (record { docs = []; name = label; payload = Some ty }) after

-- a flag or a case of an enum: a name (flags-field, enum-case)
pub data ReadsLabel : List Token → LabelTree → List Token → Type 0 where
  label : {t : Token} {text : List ℕ} {after : List Token} → IsId t text → ReadsLabel (t ∷ after) (record { docs = []; name = text }) after

-- a function of a resource (resource-method)
pub data ReadsResourceMember : List Token → ResourceMember → List Token → Type 0 where
  constructor_ : {before between middle after : List Token} {pre : Prefix} {params : List ParamTree} {result : Option TypeTree}
      → ReadsPrefix before pre (Key Keyword.Constructor ∷ between) → ReadsParams between params middle → ReadsResult middle result (Punctuation Semi ∷ after)
      → ReadsResourceMember before (Constructor pre params result) after
  method : {before between after : List Token} {t : Token} {label : List ℕ} {pre : Prefix} {signature : SignatureTree}
      → ReadsPrefix before pre (t ∷ Punctuation Colon ∷ between) → IsId t label → ReadsSignature between signature (Punctuation Semi ∷ after)
      → ReadsResourceMember before (Method pre label signature) after
  static : {before between after : List Token} {t : Token} {label : List ℕ} {pre : Prefix} {signature : SignatureTree}
      → ReadsPrefix before pre (t ∷ Punctuation Colon ∷ Key Keyword.Static ∷ between) → IsId t label
      → ReadsSignature between signature (Punctuation Semi ∷ after) → ReadsResourceMember before (Static pre label signature) after

-- a declared type (typedef-item)
pub data ReadsDeclared : List Token → Declared → List Token → Type 0 where
  record_ : {t : Token} {label : List ℕ} {before after : List Token} {fields : List FieldTree} → IsId t label
      → CommaList ReadsField (Punctuation CloseBrace) before fields after
      → ReadsDeclared (Key Keyword.Record ∷ t ∷ Punctuation OpenBrace ∷ before) (RecordOf label fields) after
  variant : {t : Token} {label : List ℕ} {before after : List Token} {cases : List CaseTree} → IsId t label
      → CommaList ReadsCase (Punctuation CloseBrace) before cases after
      → ReadsDeclared (Key Keyword.Variant ∷ t ∷ Punctuation OpenBrace ∷ before) (VariantOf label cases) after
  flags : {t : Token} {label : List ℕ} {before after : List Token} {flags : List LabelTree} → IsId t label
      → CommaList ReadsLabel (Punctuation CloseBrace) before flags after
      → ReadsDeclared (Key Keyword.Flags ∷ t ∷ Punctuation OpenBrace ∷ before) (FlagsOf label flags) after
  enum : {t : Token} {label : List ℕ} {before after : List Token} {cases : List LabelTree} → IsId t label
      → CommaList ReadsLabel (Punctuation CloseBrace) before cases after
      → ReadsDeclared (Key Keyword.Enum ∷ t ∷ Punctuation OpenBrace ∷ before) (EnumOf label cases) after
  alias : {t : Token} {label : List ℕ} {before after : List Token} {ty : TypeTree} → IsId t label → ReadsType before ty (Punctuation Semi ∷ after)
      → ReadsDeclared (Key Keyword.Type_ ∷ t ∷ Punctuation Equals ∷ before) (AliasOf label ty) after
  resource : {t : Token} {label : List ℕ} {after : List Token} → IsId t label
      → ReadsDeclared (Key Keyword.Resource ∷ t ∷ Punctuation Semi ∷ after) (ResourceOf label []) after
  resource_with : {t : Token} {label : List ℕ} {before after : List Token} {members : List ResourceMember} → IsId t label
      → Repeated ReadsResourceMember (Punctuation CloseBrace) before members after
      → ReadsDeclared (Key Keyword.Resource ∷ t ∷ Punctuation OpenBrace ∷ before) (ResourceOf label members) after

-- what an interface has: a use, a declared type or a function (interface-items)
pub data ReadsMember : List Token → MemberTree → List Token → Type 0 where
  member_use : {before between after : List Token} {pre : Prefix} {path : PathTree} {names : List UsedName} → ReadsPrefix before pre between
      → ReadsUse between path names after → ReadsMember before (UseMember pre path names) after
  member_type : {before between after : List Token} {pre : Prefix} {declared : Declared} → ReadsPrefix before pre between → ReadsDeclared between declared after
      → ReadsMember before (TypeMember pre declared) after
  member_function : {before between after : List Token} {t : Token} {label : List ℕ} {pre : Prefix} {signature : SignatureTree}
      → ReadsPrefix before pre (t ∷ Punctuation Colon ∷ between) → IsId t label → ReadsSignature between signature (Punctuation Semi ∷ after)
      → ReadsMember before (FunctionMember pre label signature) after

-- what a world imports or exports: a path, or a name with a function, a path or an interface (extern-type)
pub data ReadsExtern : List Token → ExternTree → List Token → Type 0 where
  extern_path : {before after : List Token} {path : PathTree} → ReadsPath before path (Punctuation Semi ∷ after) → ReadsExtern before (Path path) after
  extern_function : {before after : List Token} {t : Token} {label : List ℕ} {signature : SignatureTree} → IsId t label
      → ReadsSignature before signature (Punctuation Semi ∷ after) → ReadsExtern (t ∷ Punctuation Colon ∷ before) (NamedFunction label signature) after
  extern_named_path : {before after : List Token} {t : Token} {label : List ℕ} {path : PathTree} → IsId t label
      → ReadsPath before path (Punctuation Semi ∷ after) → ReadsExtern (t ∷ Punctuation Colon ∷ before) (NamedPath label path) after
  extern_interface : {before after : List Token} {t : Token} {label : List ℕ} {members : List MemberTree} → IsId t label
      → Repeated ReadsMember (Punctuation CloseBrace) before members after
      → ReadsExtern (t ∷ Punctuation Colon ∷ Key Keyword.Interface ∷ Punctuation OpenBrace ∷ before) (NamedInterface label members) after

-- what a world has: a use, a declared type, an import or an export (world-items)
pub data ReadsWorldMember : List Token → WorldMember → List Token → Type 0 where
  world_use : {before between after : List Token} {pre : Prefix} {path : PathTree} {names : List UsedName} → ReadsPrefix before pre between
      → ReadsUse between path names after → ReadsWorldMember before (WorldUse pre path names) after
  world_type : {before between after : List Token} {pre : Prefix} {declared : Declared} → ReadsPrefix before pre between → ReadsDeclared between declared after
      → ReadsWorldMember before (WorldType pre declared) after
  world_import : {before between after : List Token} {pre : Prefix} {e : ExternTree} → ReadsPrefix before pre (Key Keyword.Import ∷ between)
      → ReadsExtern between e after → ReadsWorldMember before (WorldImport pre e) after
  world_export : {before between after : List Token} {pre : Prefix} {e : ExternTree} → ReadsPrefix before pre (Key Keyword.Export ∷ between)
      → ReadsExtern between e after → ReadsWorldMember before (WorldExport pre e) after

-- an interface or a world (interface-item, world-item)
pub data ReadsItem : List Token → ItemTree → List Token → Type 0 where
  interface_item : {before between after : List Token} {t : Token} {label : List ℕ} {gates : Gates} {members : List MemberTree}
      → ReadsGates before gates (Key Keyword.Interface ∷ t ∷ Punctuation OpenBrace ∷ between) → IsId t label
      → Repeated ReadsMember (Punctuation CloseBrace) between members after → ReadsItem before (InterfaceItem [] gates label members) after
  world_item : {before between after : List Token} {t : Token} {label : List ℕ} {gates : Gates} {members : List WorldMember}
      → ReadsGates before gates (Key Keyword.World ∷ t ∷ Punctuation OpenBrace ∷ between) → IsId t label
      → Repeated ReadsWorldMember (Punctuation CloseBrace) between members after → ReadsItem before (WorldItem [] gates label members) after

-- interfaces and worlds, one after the other
pub data ReadsItems : List Token → List ItemTree → List Token → Type 0 where
  no_items : {after : List Token} → ReadsItems after [] after
  next_item : {before between after : List Token} {item : ItemTree} {items : List ItemTree} → ReadsItem before item between → ReadsItems between items after
      → ReadsItems before (item ∷ items) after

-- what follows the word `package`: a name, and perhaps a version (package-decl)
pub data ReadsHead : List Token → PackageHead → List Token → Type 0 where
  head : {t u : Token} {namespace name : List ℕ} {version : Option (List ℕ)} {between after : List Token} → IsId t namespace → IsId u name
      → ReadsVersion between version after → ReadsHead (t ∷ Punctuation Colon ∷ u ∷ between)
      (record { docs = []; namespace = namespace; name = name; version = version }) after

-- a package nested in the file (nested-package-definition)
pub data ReadsNested : List Token → PackageTree → List Token → Type 0 where
  nested_package : {before middle after : List Token} {head : PackageHead} {items : List ItemTree} → ReadsHead before head (Punctuation OpenBrace ∷ middle)
      → Repeated ReadsItem (Punctuation CloseBrace) middle items after
      → ReadsNested (Key Keyword.Package ∷ before) (record { head = head; items = items }) after

-- nested packages, and nothing more
pub data ReadsAllNested : List Token → List PackageTree → Type 0 where
  nested_end : ReadsAllNested [] []
  next_nested : {before between : List Token} {tree : PackageTree} {trees : List PackageTree} → ReadsNested before tree between → ReadsAllNested between trees
      → ReadsAllNested before (tree ∷ trees)

-- a file: its package, and then nested ones (wit-file)
pub data ReadsFile : List Token → FileTree → Type 0 where
  file : {before middle after : List Token} {head : PackageHead} {items : List ItemTree} {nested : List PackageTree}
      → ReadsHead before head (Punctuation Semi ∷ middle) → ReadsItems middle items after → ReadsAllNested after nested
      → ReadsFile (Key Keyword.Package ∷ before) (record { main = record { head = head; items = items }; nested = nested })
