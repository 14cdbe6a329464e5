-- What is declared, as definitions grow. Serves declared.
use Rattle.std.proofs.Common.{◌≡◌, ◌∙◌, sym, ap, subst, refl, ℕ, List, Some, slice_get, Result, Ok, Err, IfOk, Vec, Global}
use Rattle.wit_model.specs.Text.{Text}
use Rattle.wit_model.specs.declared.model.{TypeDef.TypeDef, TypeDefKind.TypeDefKind, TypeId.TypeId, TypeOwner.TypeOwner, Docs.Docs, Field.Field, Case.Case}
use Rattle.print_grammar.specs.Tree.{Prefix, FieldTree, CaseTree, Declared}
use Rattle.print_items.specs.Shown.{shown_docs}
use Rattle.wit_model.specs.declared.model.{Record.Record, Variant.Variant, Flags.Flags, Enum.Enum}
use Rattle.wit_model.specs.declared.model.TypeDefKind.TheVariants as defined
use Rattle.wit_model.specs.declared.model.«Type».TheVariants as value
use Rattle.text_trees.specs.declared.tree.Declared.{Declared as CodeDeclared}
use Rattle.text_trees.specs.declared.tree.Declared.TheVariants as sorts
use Rattle.text_trees.specs.declared.tree.{Span.Span, FieldTree.FieldTree as CodeField}
use Rattle.text_trees.specs.declared.tree.{CaseTree.CaseTree as CodeCase, LabelTree.LabelTree as CodeLabel, ResourceMember.ResourceMember as CodeMember}
use Rattle.text_trees.specs.declared.tree.TypeTree.{TypeTree as CodeType}
use Rattle.text_trees.specs.{Seen.cut, TreesSeen.declared_of, TreesSeen.type_of, TreesSeen.field_of, TreesSeen.case_of, TreesSeen.label_of}
use Rattle.text_types.specs.Plain.{plain_declared, plain_alias, plain_field, plain_case}
use Rattle.text_types.specs.Seen.{SeenField, SeenCase, SeenFlag, SeenEnumCase}
use Rattle.text_types.specs.declared.types.Types.{Types}
use Rattle.text_types.specs.{Each.EachIs, Stands.KindIs, Kept.defs_of, Kept.Grows, Begins.Begins}
use Rattle.text_types.specs.Declares.{FieldIs, CaseIs, DeclaredKind, declared_name, with_docs, DeclaredAt, NamedAt, OwnTarget}
use Rattle.text_types.proofs.Growth.{stands_stays, kind_stays, entry_stays}
use Rattle.text_types.proofs.EachLaws.{each_weaker, maybe_weaker, each_map}

module _ {old new : List TypeDef} (h : Begins old new) where
  pub field_stays : (tree : FieldTree) (field : Field) → FieldIs old tree field → FieldIs new tree field
  field_stays tree field k = record { name = k.name; ty = stands_stays h k.ty; docs = k.docs }

  pub case_stays : (tree : CaseTree) (case : Case) → CaseIs old tree case → CaseIs new tree case
  case_stays tree case k = record { name = k.name; payload = maybe_weaker (λ t ty s. stands_stays h s) k.payload; docs = k.docs }

  pub declared_kind_stays : {declared : Declared} {kind : TypeDefKind} → DeclaredKind old declared kind → DeclaredKind new declared kind
  declared_kind_stays (DeclaredKind.a_record name k) = DeclaredKind.a_record name (each_weaker field_stays k)
  declared_kind_stays (DeclaredKind.a_variant name k) = DeclaredKind.a_variant name (each_weaker case_stays k)
  declared_kind_stays (DeclaredKind.a_flags name k) = DeclaredKind.a_flags name k
  declared_kind_stays (DeclaredKind.an_enum name k) = DeclaredKind.an_enum name k
  declared_kind_stays (DeclaredKind.an_alias name k) = DeclaredKind.an_alias name (kind_stays h k)
  declared_kind_stays (DeclaredKind.a_resource name members) = DeclaredKind.a_resource name members

  pub own_target_stays : {owner : TypeOwner} {kind : TypeDefKind} → OwnTarget old owner kind → OwnTarget new owner kind
  own_target_stays k = record {
    leads = λ target is. (let o = k.leads target is in record { def = o.def; there = entry_stays target.0 o.def h o.there; owned = o.owned });
  }

  pub declared_stays : {owner : TypeOwner} {prefix : Prefix} {declared : Declared} {id : TypeId} → DeclaredAt old owner prefix declared id
      → DeclaredAt new owner prefix declared id
  declared_stays {id = id} k = record {
    def = k.def;
    there = entry_stays id.0 k.def h k.there;
    stands = record { front = k.stands.front; kind = declared_kind_stays k.stands.kind; own = own_target_stays k.stands.own };
  }

pub plain_name : (declared : Declared) → declared_name (plain_declared declared) ≡ declared_name declared
plain_name (Declared.RecordOf name fields) = refl
plain_name (Declared.VariantOf name cases) = refl
plain_name (Declared.FlagsOf name flags) = refl
plain_name (Declared.EnumOf name cases) = refl
plain_name (Declared.AliasOf name ty) = refl
plain_name (Declared.ResourceOf name members) = refl

-- a definition that is added under its name, with its documentation, is what the tree declares
pub declared_added : {a b : Types} (owner : TypeOwner) (prefix : Prefix) {declared : Declared} {name : Text} {kind : TypeDefKind} {E : Type 0}
    (docs : Docs) (r : Result TypeId E) → Grows a b → shown_docs docs ≡ prefix.docs
    → DeclaredKind (defs_of a) declared kind → OwnTarget (defs_of a) owner kind → name ≡ declared_name declared
    → IfOk r (NamedAt (defs_of b) owner (with_docs (shown_docs docs) prefix) name kind) → IfOk r (DeclaredAt (defs_of b) owner prefix declared)
declared_added {b = b} owner prefix {declared = declared} docs (Ok id) g d k own e n = record {
  def = n.def;
  there = n.there;
  stands = record {
    front = record {
      named = n.front.named ∙ ap Some e;
      owned = n.front.owned;
      docs = n.front.docs ∙ d;
      gates = n.front.gates;
      external_id = n.front.external_id;
    };
    kind = subst (DeclaredKind (defs_of b) declared) (sym n.has) (declared_kind_stays g.defs k);
    own = subst (OwnTarget (defs_of b) owner) (sym n.has) (own_target_stays g.defs own);
  };
}
declared_added owner prefix docs (Err x) g d k own e n = tt

same_there : (defs : List TypeDef) (n : ℕ) {a b : TypeDef} → slice_get defs n ≡ Some a → slice_get defs n ≡ Some b → a ≡ b
same_there defs n e f = cc (e, f)

-- a declared type that is another name for a type is one for a type of its owner
pub declared_own : {defs : List TypeDef} {owner : TypeOwner} {prefix : Prefix} {declared : Declared} {id : TypeId} → DeclaredAt defs owner prefix declared id
    → (target : TypeId) (def aliased : TypeDef) → slice_get defs id.0 ≡ Some def → def.kind ≡ defined.Type_ (value.Id target)
    → slice_get defs target.0 ≡ Some aliased → aliased.owner ≡ owner
declared_own {defs = defs} {owner = owner} {id = id} k target def aliased here is there =
    let own = subst (λ (d : TypeDef). OwnTarget defs owner d.kind) (same_there defs id.0 k.there here) k.stands.own in
    let leads = own.leads target is in
    subst (λ (d : TypeDef). d.owner ≡ owner) (same_there defs target.0 leads.there there) leads.owned

-- ---- kinds that are no other names

module _ {defs : List TypeDef} {owner : TypeOwner} where
  pub own_record : {r : Record} → OwnTarget defs owner (defined.Record r)
  own_record = record { leads = λ target e. absurd (cc e) }

  pub own_variant : {v : Variant} → OwnTarget defs owner (defined.Variant v)
  own_variant = record { leads = λ target e. absurd (cc e) }

  pub own_flags : {f : Flags} → OwnTarget defs owner (defined.Flags f)
  own_flags = record { leads = λ target e. absurd (cc e) }

  pub own_enum : {e : Enum} → OwnTarget defs owner (defined.Enum e)
  own_enum = record { leads = λ target e. absurd (cc e) }

  pub own_resource : OwnTarget defs owner defined.Resource
  own_resource = record { leads = λ target e. absurd (cc e) }

pub ruleset own_kinds = (own_record, own_variant, own_flags, own_enum, own_resource)

-- ---- from trees of the code

module _ {defs : List TypeDef} (text : Text) {declared : CodeDeclared} where
  pub record_is : {name : Span} {trees : Vec CodeField Global} {xs : List CodeField} {r : Record} → declared ≡ sorts.RecordOf name trees → xs ≡ trees.items
      → EachIs (SeenField defs text) xs r.fields.items → DeclaredKind defs (plain_declared (declared_of text declared)) (defined.Record r)
  record_is {name = name} {trees = trees} {r = r} e f k =
      subst (λ d. DeclaredKind defs (plain_declared (declared_of text d)) (defined.Record r)) (sym e)
      (DeclaredKind.a_record (cut text name) (each_map plain_field _ _ (each_map (field_of text) trees.items _ (subst (λ x. EachIs
      (SeenField defs text) x r.fields.items) f k))))

  pub variant_is : {name : Span} {trees : Vec CodeCase Global} {xs : List CodeCase} {v : Variant} → declared ≡ sorts.VariantOf name trees → xs ≡ trees.items
      → EachIs (SeenCase defs text) xs v.cases.items → DeclaredKind defs (plain_declared (declared_of text declared)) (defined.Variant v)
  variant_is {name = name} {trees = trees} {v = v} e f k =
      subst (λ d. DeclaredKind defs (plain_declared (declared_of text d)) (defined.Variant v)) (sym e)
      (DeclaredKind.a_variant (cut text name) (each_map plain_case _ _ (each_map (case_of text) trees.items _ (subst (λ x. EachIs
      (SeenCase defs text) x v.cases.items) f k))))

  pub flags_are : {name : Span} {trees : Vec CodeLabel Global} {xs : List CodeLabel} {g : Flags} → declared ≡ sorts.FlagsOf name trees → xs ≡ trees.items
      → EachIs (SeenFlag text) xs g.flags.items → DeclaredKind defs (plain_declared (declared_of text declared)) (defined.Flags g)
  flags_are {name = name} {trees = trees} {g = g} e f k =
      subst (λ d. DeclaredKind defs (plain_declared (declared_of text d)) (defined.Flags g)) (sym e)
      (DeclaredKind.a_flags (cut text name) (each_map (label_of text) trees.items _ (subst (λ x. EachIs (SeenFlag text) x g.flags.items) f k)))

  pub enum_is : {name : Span} {trees : Vec CodeLabel Global} {xs : List CodeLabel} {g : Enum} → declared ≡ sorts.EnumOf name trees → xs ≡ trees.items
      → EachIs (SeenEnumCase text) xs g.cases.items → DeclaredKind defs (plain_declared (declared_of text declared)) (defined.Enum g)
  enum_is {name = name} {trees = trees} {g = g} e f k =
      subst (λ d. DeclaredKind defs (plain_declared (declared_of text d)) (defined.Enum g)) (sym e)
      (DeclaredKind.an_enum (cut text name) (each_map (label_of text) trees.items _ (subst (λ x. EachIs (SeenEnumCase text) x g.cases.items) f k)))

  pub resource_is : {name : Span} {members : Vec CodeMember Global} → declared ≡ sorts.ResourceOf name members
      → DeclaredKind defs (plain_declared (declared_of text declared)) defined.Resource
  resource_is {name = name} e = subst (λ d. DeclaredKind defs (plain_declared (declared_of text d)) defined.Resource) (sym e) (DeclaredKind.a_resource
      (cut text name) _)

pub alias_is : (defs : List TypeDef) (text : Text) {declared : CodeDeclared} {E : Type 0} {name : Span} {ty : CodeType} (r : Result TypeDefKind E)
    → declared ≡ sorts.AliasOf name ty
    → IfOk r (KindIs defs (plain_alias (type_of text ty))) → IfOk r (DeclaredKind defs (plain_declared (declared_of text declared)))
alias_is defs text {name = name} (Ok kind) e k = subst (λ d. DeclaredKind defs (plain_declared (declared_of text d)) kind) (sym e) (DeclaredKind.an_alias
    (cut text name) k)
alias_is defs text (Err x) e k = tt
