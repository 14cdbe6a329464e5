-- What is shown of types is their plain trees. Serves Declared, Functions.
use Rattle.std.proofs.Common.{rules as std_rules, ◌≡◌, refl, ap, ◌∙◌, List, [], Option, Some, None, option_map}
use Rattle.std.specs.{Prelude.String, Option.option_map_or}
use Rattle.std.specs.declared.alloc.Global.{Global}
use Rattle.wit_model.specs.declared.model.{Resolve.Resolve, TypeDefKind.TypeDefKind, TypeId.TypeId, «Type».«Type» as ValueType}
use Rattle.wit_model.specs.declared.model.«Type».TheVariants as value
use Rattle.wit_model.specs.{Text.Text, Text.text_of, Valid.IsValid}
use Rattle.print_grammar.specs.Keyword.{PrimitiveName}
use Rattle.print_grammar.specs.Tree.{TypeTree, TypeTrees, TypeTrees.AndTypes}
use Rattle.print_grammar.specs.Tree.TypeTree.{PrimitiveType, Name, Own, Borrow, TupleOf, OptionOf, ListOf, FixedListOf}
use Rattle.print_grammar.specs.Tree.TypeTree.{MapOf, ResultOk, ResultErr, ResultOf, FutureOf, StreamOf}
use Rattle.print_items.specs.Shown.{present_name, type_name, used_type, used_type_trees, kind_tree, type_trees, shown_type, alias_tree}
use Rattle.print_items.proofs.TypeParts.{shown_at}
use Rattle.text_types.specs.{Each.MaybeIs, Plain.plain_type, Plain.plain_types, Plain.plain_alias}
use Rattle.text_types.specs.Stands.{NameAt, UnnamedAt, Stands, FormIs, StandAll, KindIs, value_of}

-- ---- names

-- a name that is there
pub present : (o : Option (String Global)) (name : Text) → option_map text_of o ≡ Some name → present_name o ≡ name
present None name e = absurd cc
present (Some s) name e = cc

named_tree : (o : Option (String Global)) (name : Text) (kind : TypeTree) → option_map text_of o ≡ Some name
    → option_map_or (λ s. TypeTree.Name (text_of s)) o kind ≡ TypeTree.Name name
named_tree None name kind e = absurd cc
named_tree (Some s) name kind e = let same : text_of s ≡ name = cc in ap TypeTree.Name same

primitive_shown : (trees : List TypeTree) (p : PrimitiveName) → used_type trees (value_of p) ≡ PrimitiveType p
primitive_shown trees p = search std_rules

module _ (r : Resolve) where
  -- the name of the type of this number
  pub name_at : {id : TypeId} {name : Text} → NameAt r.types.items id name → type_name r id ≡ name
  name_at {name = name} k = ap (λ o. option_map_or (λ def. present_name def.name) o []) k.there ∙ present k.def.name name k.named

  module _ (valid : IsValid r) where
    named_shown : {id : TypeId} {name : Text} → NameAt r.types.items id name → shown_type r (value.Id id) ≡ Name name
    named_shown {id = id} {name = name} k = shown_at r valid id k.def k.there ∙ named_tree k.def.name name _ k.named

    unnamed_shown : {id : TypeId} {kind : TypeDefKind} → UnnamedAt r.types.items id kind → shown_type r (value.Id id) ≡ kind_tree r (type_trees r) kind
    unnamed_shown {id = id} k = shown_at r valid id k.def k.there
        ∙ ap (λ o. option_map_or (λ s. TypeTree.Name (text_of s)) o (kind_tree r (type_trees r) k.def.kind)) k.unnamed ∙ ap (kind_tree r (type_trees r)) k.has

    -- ---- types

    mutual
      -- what is shown of a type, in its plain form
      pub type_shown : {tree : TypeTree} {ty : ValueType} → Stands r.types.items tree ty → plain_type (shown_type r ty) ≡ tree
      type_shown (Stands.a_primitive p) = ap plain_type (primitive_shown (type_trees r) p)
      type_shown (Stands.a_name k) = ap plain_type (named_shown k)
      type_shown (Stands.an_own_handle k h) = ap plain_type (unnamed_shown k) ∙ ap TypeTree.Name (name_at h)
      type_shown (Stands.unnamed k h) = ap plain_type (unnamed_shown k) ∙ form_shown h

      -- what is shown of a kind without a name
      pub form_shown : {tree : TypeTree} {kind : TypeDefKind} → FormIs r.types.items tree kind → plain_type (kind_tree r (type_trees r) kind) ≡ tree
      form_shown (FormIs.a_borrow k) = ap Borrow (name_at k)
      form_shown (FormIs.a_tuple k) = ap TupleOf (types_shown k)
      form_shown (FormIs.an_option k) = ap OptionOf (type_shown k)
      form_shown (FormIs.a_list k) = ap ListOf (type_shown k)
      form_shown (FormIs.a_fixed_list n k) = ap (λ t. FixedListOf t n) (type_shown k)
      form_shown (FormIs.a_map k h) = λ i. MapOf (type_shown k i) (type_shown h i)
      form_shown FormIs.a_result = refl
      form_shown (FormIs.a_result_ok k) = ap ResultOk (type_shown k)
      form_shown (FormIs.a_result_err k) = ap ResultErr (type_shown k)
      form_shown (FormIs.a_result_of k h) = λ i. ResultOf (type_shown k i) (type_shown h i)
      form_shown FormIs.a_future = refl
      form_shown (FormIs.a_future_of k) = ap FutureOf (type_shown k)
      form_shown FormIs.a_stream = refl
      form_shown (FormIs.a_stream_of k) = ap StreamOf (type_shown k)

      types_shown : {trees : TypeTrees} {types : List ValueType} → StandAll r.types.items trees types
          → plain_types (used_type_trees (type_trees r) types) ≡ trees
      types_shown StandAll.none = refl
      types_shown (StandAll.one_more k ks) = λ i. AndTypes (type_shown k i) (types_shown ks i)

    -- a type that may be left out
    pub payload_shown : {tree : Option TypeTree} {ty : Option ValueType} → MaybeIs (Stands r.types.items) tree ty
        → option_map plain_type (option_map (shown_type r) ty) ≡ tree
    payload_shown MaybeIs.neither = refl
    payload_shown (MaybeIs.both k) = ap Some (type_shown k)

    -- ---- what `type` declares

    form_alias : {tree : TypeTree} {kind : TypeDefKind} → FormIs r.types.items tree kind → plain_alias (alias_tree r kind) ≡ tree
    form_alias (FormIs.a_borrow k) = ap Borrow (name_at k)
    form_alias (FormIs.a_tuple k) = ap TupleOf (types_shown k)
    form_alias (FormIs.an_option k) = ap OptionOf (type_shown k)
    form_alias (FormIs.a_list k) = ap ListOf (type_shown k)
    form_alias (FormIs.a_fixed_list n k) = ap (λ t. FixedListOf t n) (type_shown k)
    form_alias (FormIs.a_map k h) = λ i. MapOf (type_shown k i) (type_shown h i)
    form_alias FormIs.a_result = refl
    form_alias (FormIs.a_result_ok k) = ap ResultOk (type_shown k)
    form_alias (FormIs.a_result_err k) = ap ResultErr (type_shown k)
    form_alias (FormIs.a_result_of k h) = λ i. ResultOf (type_shown k i) (type_shown h i)
    form_alias FormIs.a_future = refl
    form_alias (FormIs.a_future_of k) = ap FutureOf (type_shown k)
    form_alias FormIs.a_stream = refl
    form_alias (FormIs.a_stream_of k) = ap StreamOf (type_shown k)

    -- what is shown of a kind with a name
    pub alias_shown : {tree : TypeTree} {kind : TypeDefKind} → KindIs r.types.items tree kind → plain_alias (alias_tree r kind) ≡ tree
    alias_shown (KindIs.another_primitive p) = ap plain_alias (primitive_shown (type_trees r) p)
    alias_shown (KindIs.another_name k) = ap plain_alias (named_shown k)
    alias_shown (KindIs.a_named_own k) = ap Own (name_at k)
    alias_shown (KindIs.a_form k) = form_alias k
