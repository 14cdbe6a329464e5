-- Which trees declared types are, by the list of definitions alone.
use Rattle.std.specs.Prelude.{◌≡◌, List, Some, option_map, slice_get}
use Rattle.wit_model.specs.Text.{Text, text_of}
use Rattle.wit_model.specs.declared.model.{TypeDef.TypeDef, TypeDefKind.TypeDefKind, TypeId.TypeId, TypeOwner.TypeOwner}
use Rattle.wit_model.specs.declared.model.{Field.Field, Case.Case, Flag.Flag, EnumCase.EnumCase}
use Rattle.wit_model.specs.declared.model.{Record.Record, Variant.Variant, Flags.Flags, Enum.Enum}
use Rattle.wit_model.specs.declared.model.TypeDefKind.TheVariants as defined
use Rattle.wit_model.specs.declared.model.«Type».TheVariants as value
use Rattle.print_grammar.specs.Tree.{TypeTree, Prefix, FieldTree, CaseTree, LabelTree, ResourceMember, Declared}
use Rattle.print_grammar.specs.Tree.Declared.{RecordOf, VariantOf, FlagsOf, EnumOf, AliasOf, ResourceOf}
use Rattle.print_items.specs.Shown.{shown_docs, shown_gates, shown_external_id}
use Rattle.text_types.specs.{Each.EachIs, Each.MaybeIs, Stands.Stands, Stands.KindIs}

-- A field is this plain tree.
pub record FieldIs (defs : List TypeDef) (tree : FieldTree) (field : Field) : Type 0 where
  pub name : text_of field.name ≡ tree.name
  pub ty : Stands defs tree.ty field.ty
  pub docs : shown_docs field.docs ≡ tree.docs

-- A case is this plain tree.
pub record CaseIs (defs : List TypeDef) (tree : CaseTree) (case : Case) : Type 0 where
  pub name : text_of case.name ≡ tree.name
  pub payload : MaybeIs (Stands defs) tree.payload case.ty
  pub docs : shown_docs case.docs ≡ tree.docs

-- A flag is this tree.
pub record FlagIs (tree : LabelTree) (flag : Flag) : Type 0 where
  pub name : text_of flag.name ≡ tree.name
  pub docs : shown_docs flag.docs ≡ tree.docs

-- A case of an enum is this tree.
pub record EnumCaseIs (tree : LabelTree) (case : EnumCase) : Type 0 where
  pub name : text_of case.name ≡ tree.name
  pub docs : shown_docs case.docs ≡ tree.docs

-- A kind is what a plain tree declares. A resource may have any functions.
pub data DeclaredKind (defs : List TypeDef) : Declared → TypeDefKind → Type 0 where
  a_record : (name : Text) {fields : List FieldTree} {r : Record} → EachIs (FieldIs defs) fields r.fields.items
      → DeclaredKind defs (RecordOf name fields) (defined.Record r)
  a_variant : (name : Text) {cases : List CaseTree} {v : Variant} → EachIs (CaseIs defs) cases v.cases.items
      → DeclaredKind defs (VariantOf name cases) (defined.Variant v)
  a_flags : (name : Text) {flags : List LabelTree} {f : Flags} → EachIs FlagIs flags f.flags.items → DeclaredKind defs (FlagsOf name flags) (defined.Flags f)
  an_enum : (name : Text) {cases : List LabelTree} {e : Enum} → EachIs EnumCaseIs cases e.cases.items → DeclaredKind defs (EnumOf name cases) (defined.Enum e)
  an_alias : (name : Text) {tree : TypeTree} {kind : TypeDefKind} → KindIs defs tree kind → DeclaredKind defs (AliasOf name tree) kind
  a_resource : (name : Text) (members : List ResourceMember) → DeclaredKind defs (ResourceOf name members) defined.Resource

-- the name of a declared type
abbrev pub declared_name : Declared → Text
declared_name (RecordOf name fields) = name
declared_name (VariantOf name cases) = name
declared_name (FlagsOf name flags) = name
declared_name (EnumOf name cases) = name
declared_name (AliasOf name ty) = name
declared_name (ResourceOf name members) = name

-- what stands in front of an item, with these lines of documentation
abbrev pub with_docs : List Text → Prefix → Prefix
with_docs lines prefix = record prefix { docs = lines }

-- A definition has this name, this documentation, these gates and this external id, and belongs to this owner.
pub record IsNamed (owner : TypeOwner) (prefix : Prefix) (name : Text) (def : TypeDef) : Type 0 where
  pub named : option_map text_of def.name ≡ Some name
  pub owned : def.owner ≡ owner
  pub docs : shown_docs def.docs ≡ prefix.docs
  pub gates : shown_gates def.stability ≡ prefix.gates
  pub external_id : shown_external_id def.external_id ≡ prefix.external_id

-- The definition of this number is there, and belongs to this owner.
pub record OwnedAt (defs : List TypeDef) (owner : TypeOwner) (id : TypeId) : Type 0 where
  pub def : TypeDef
  pub there : slice_get defs id.0 ≡ Some def
  pub owned : def.owner ≡ owner

-- A kind that is another name for the type of a number leads to a type of this owner.
pub record OwnTarget (defs : List TypeDef) (owner : TypeOwner) (kind : TypeDefKind) : Type 0 where
  pub leads : (target : TypeId) → kind ≡ defined.Type_ (value.Id target) → OwnedAt defs owner target

-- A definition is what a plain tree declares, with what stands in front of it. If it is another name for a type, then for one of the same owner.
pub record DeclaredStands (defs : List TypeDef) (owner : TypeOwner) (prefix : Prefix) (declared : Declared) (def : TypeDef) : Type 0 where
  pub front : IsNamed owner prefix (declared_name declared) def
  pub kind : DeclaredKind defs declared def.kind
  pub own : OwnTarget defs owner def.kind

-- The definition of this number is there, and is what a plain tree declares.
pub record DeclaredAt (defs : List TypeDef) (owner : TypeOwner) (prefix : Prefix) (declared : Declared) (id : TypeId) : Type 0 where
  pub def : TypeDef
  pub there : slice_get defs id.0 ≡ Some def
  pub stands : DeclaredStands defs owner prefix declared def

-- The definition of this number is there, of this kind, and with this name and this in front of it.
pub record NamedAt (defs : List TypeDef) (owner : TypeOwner) (prefix : Prefix) (name : Text) (kind : TypeDefKind) (id : TypeId) : Type 0 where
  pub def : TypeDef
  pub there : slice_get defs id.0 ≡ Some def
  pub front : IsNamed owner prefix name def
  pub has : def.kind ≡ kind
