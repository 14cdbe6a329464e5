-- WIT text as a tree (WIT.md, Lexical structure to Item: type). Ids stand as their labels, without `%`, and every list keeps its order.
-- Documentation is a comment, so a reader finds none: the trees that are read have empty `docs`, and no `Handle`.
use Rattle.std.specs.Prelude.{Bool, List, ℕ, Option}
use Rattle.wit_model.specs.Text.{Text}
use Rattle.print_grammar.specs.Keyword.{PrimitiveName}

mutual
  -- A type where it is used.
  pub data TypeTree : Type 0 where
    PrimitiveType : PrimitiveName → TypeTree
    -- a declared type
    Name : Text → TypeTree
    -- an owned resource whose handle has no name: it is written, and read again, as the resource's name
    Handle : Text → TypeTree
    Own : Text → TypeTree
    Borrow : Text → TypeTree
    TupleOf : TypeTrees → TypeTree
    OptionOf : TypeTree → TypeTree
    ListOf : TypeTree → TypeTree
    FixedListOf : TypeTree → ℕ → TypeTree
    MapOf : TypeTree → TypeTree → TypeTree
    Result : TypeTree
    ResultOk : TypeTree → TypeTree
    ResultErr : TypeTree → TypeTree
    ResultOf : TypeTree → TypeTree → TypeTree
    Future : TypeTree
    FutureOf : TypeTree → TypeTree
    Stream : TypeTree
    StreamOf : TypeTree → TypeTree

  -- The types of a tuple.
  pub data TypeTrees : Type 0 where
    NoTypes : TypeTrees
    AndTypes : TypeTree → TypeTrees → TypeTrees

-- Feature gates.
pub data Gates : Type 0 where
  Ungated : Gates
  -- since a version, and deprecated since one
  Since : Text → Option Text → Gates
  -- unstable under a feature, and deprecated since a version
  Unstable : Text → Option Text → Gates

-- What stands in front of an item: lines of documentation, gates, and the characters of its external id.
pub record Prefix : Type 0 where
  pub docs : List Text
  pub gates : Gates
  pub external_id : Option (List ℕ)

-- A parameter of a function.
pub record ParamTree : Type 0 where
  pub name : Text
  pub ty : TypeTree

-- A field of a record.
pub record FieldTree : Type 0 where
  pub docs : List Text
  pub name : Text
  pub ty : TypeTree

-- A case of a variant, with its payload where it has one.
pub record CaseTree : Type 0 where
  pub docs : List Text
  pub name : Text
  pub payload : Option TypeTree

-- A flag, or a case of an enum.
pub record LabelTree : Type 0 where
  pub docs : List Text
  pub name : Text

-- A function's type.
pub record SignatureTree : Type 0 where
  pub is_async : Bool
  pub params : List ParamTree
  pub result : Option TypeTree

-- What a resource has.
pub data ResourceMember : Type 0 where
  Constructor : Prefix → List ParamTree → Option TypeTree → ResourceMember
  Method : Prefix → Text → SignatureTree → ResourceMember
  Static : Prefix → Text → SignatureTree → ResourceMember

-- A declared type. A resource without functions is one, whether it ends in `;` or in `{}`.
pub data Declared : Type 0 where
  RecordOf : Text → List FieldTree → Declared
  VariantOf : Text → List CaseTree → Declared
  FlagsOf : Text → List LabelTree → Declared
  EnumOf : Text → List LabelTree → Declared
  AliasOf : Text → TypeTree → Declared
  ResourceOf : Text → List ResourceMember → Declared

-- An interface's place: in the same package, or by namespace, package, interface and version.
pub data PathTree : Type 0 where
  Local : Text → PathTree
  Full : Text → Text → Text → Option Text → PathTree

-- A name of a `use`, and what it is called here, if that is another name.
pub record UsedName : Type 0 where
  pub other : Text
  pub own : Option Text

-- What an interface has.
pub data MemberTree : Type 0 where
  UseMember : Prefix → PathTree → List UsedName → MemberTree
  TypeMember : Prefix → Declared → MemberTree
  FunctionMember : Prefix → Text → SignatureTree → MemberTree

-- What a world imports or exports.
pub data ExternTree : Type 0 where
  Path : PathTree → ExternTree
  NamedFunction : Text → SignatureTree → ExternTree
  NamedPath : Text → PathTree → ExternTree
  NamedInterface : Text → List MemberTree → ExternTree

-- What a world has.
pub data WorldMember : Type 0 where
  WorldUse : Prefix → PathTree → List UsedName → WorldMember
  WorldType : Prefix → Declared → WorldMember
  WorldImport : Prefix → ExternTree → WorldMember
  WorldExport : Prefix → ExternTree → WorldMember

-- What a package has: interfaces and worlds, each with documentation, gates and a name.
pub data ItemTree : Type 0 where
  InterfaceItem : List Text → Gates → Text → List MemberTree → ItemTree
  WorldItem : List Text → Gates → Text → List WorldMember → ItemTree

-- A package's documentation, namespace, name and version.
pub record PackageHead : Type 0 where
  pub docs : List Text
  pub namespace : Text
  pub name : Text
  pub version : Option Text

-- A package: what names it, and items.
pub record PackageTree : Type 0 where
  pub head : PackageHead
  pub items : List ItemTree

-- A file: the package that it begins with, and the nested ones.
pub record FileTree : Type 0 where
  pub main : PackageTree
  pub nested : List PackageTree
