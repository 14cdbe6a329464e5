-- What is shown of a declared type is its plain tree. Serves Interfaces.
use Rattle.std.proofs.Common.{◌≡◌, refl, ap, ◌∙◌, List, ◌∷◌, map, filter}
use Rattle.wit_model.specs.declared.model.{Resolve.Resolve, TypeDef.TypeDef, TypeDefKind.TypeDefKind, TypeId.TypeId, TypeOwner.TypeOwner}
use Rattle.wit_model.specs.declared.model.{Function.Function}
use Rattle.wit_model.specs.declared.model.{Field.Field, Case.Case, Flag.Flag, EnumCase.EnumCase}
use Rattle.wit_model.specs.{Text.Text, Valid.IsValid}
use Rattle.print_grammar.specs.Tree.{TypeTree, Prefix, FieldTree, CaseTree, LabelTree, ResourceMember, Declared}
use Rattle.print_grammar.specs.Tree.Declared.{RecordOf, VariantOf, FlagsOf, EnumOf, AliasOf, ResourceOf}
use Rattle.print_items.specs.Shown.{shown_prefix, shown_field, shown_case, shown_flag, shown_enum_case, alias_tree, belongs_to, declared_of}
use Rattle.print_items.specs.Shown.{shown_declared, shown_resource_member}
use Rattle.text_types.specs.{Each.EachIs, Stands.FormIs, Stands.KindIs}
use Rattle.text_types.specs.Declares.{FieldIs, CaseIs, FlagIs, EnumCaseIs, DeclaredKind, declared_name, IsNamed, DeclaredStands}
use Rattle.text_types.specs.Plain.{plain_field, plain_case, plain_resource_member, plain_declared}
use Rattle.base_lemmas.proofs.Lists.{map_of_map}
use Rattle.text_shown.proofs.Types.{alias_shown, payload_shown, present, type_shown}

-- one list is what is made of the other
pub each_mapped : {X Y : Type 0} {Is : X → Y → Type 0} (f : Y → X) → ((x : X) (y : Y) → Is x y → f y ≡ x) → {xs : List X} {ys : List Y}
    → EachIs Is xs ys → map f ys ≡ xs
each_mapped f same EachIs.no_more = refl
each_mapped f same (EachIs.one_more {x = x} {y = y} k ks) = λ i. same x y k i ∷ each_mapped f same ks i

flag_shown : (tree : LabelTree) (flag : Flag) → FlagIs tree flag → shown_flag flag ≡ tree
flag_shown tree flag k = λ i. record { docs = k.docs i; name = k.name i }

enum_case_shown : (tree : LabelTree) (case : EnumCase) → EnumCaseIs tree case → shown_enum_case case ≡ tree
enum_case_shown tree case k = λ i. record { docs = k.docs i; name = k.name i }

-- what stands in front of a definition
pub front_shown : {owner : TypeOwner} {prefix : Prefix} {name : Text} {def : TypeDef} → IsNamed owner prefix name def
    → shown_prefix def.docs def.stability def.external_id ≡ prefix
front_shown k = λ i. record { docs = k.docs i; gates = k.gates i; external_id = k.external_id i }

-- The functions of a resource are these, in their plain form.
abbrev pub AreFunctionsOf : List ResourceMember → Declared → Type 0
AreFunctionsOf shown (ResourceOf name members) = map (plain_resource_member name) shown ≡ members
AreFunctionsOf shown (RecordOf name fields) = Unit {0}
AreFunctionsOf shown (VariantOf name cases) = Unit {0}
AreFunctionsOf shown (FlagsOf name flags) = Unit {0}
AreFunctionsOf shown (EnumOf name cases) = Unit {0}
AreFunctionsOf shown (AliasOf name ty) = Unit {0}

module _ (r : Resolve) where
  form_declared : (name : Text) (shown : List ResourceMember) {tree : TypeTree} {kind : TypeDefKind} → FormIs r.types.items tree kind
      → declared_of r name shown kind ≡ AliasOf name (alias_tree r kind)
  form_declared name shown (FormIs.a_borrow k) = refl
  form_declared name shown (FormIs.a_tuple k) = refl
  form_declared name shown (FormIs.an_option k) = refl
  form_declared name shown (FormIs.a_list k) = refl
  form_declared name shown (FormIs.a_fixed_list n k) = refl
  form_declared name shown (FormIs.a_map k h) = refl
  form_declared name shown FormIs.a_result = refl
  form_declared name shown (FormIs.a_result_ok k) = refl
  form_declared name shown (FormIs.a_result_err k) = refl
  form_declared name shown (FormIs.a_result_of k h) = refl
  form_declared name shown FormIs.a_future = refl
  form_declared name shown (FormIs.a_future_of k) = refl
  form_declared name shown FormIs.a_stream = refl
  form_declared name shown (FormIs.a_stream_of k) = refl

  -- another name is declared for a kind that is a type
  alias_declared : (name : Text) (shown : List ResourceMember) {tree : TypeTree} {kind : TypeDefKind} → KindIs r.types.items tree kind
      → declared_of r name shown kind ≡ AliasOf name (alias_tree r kind)
  alias_declared name shown (KindIs.another_primitive p) = refl
  alias_declared name shown (KindIs.another_name k) = refl
  alias_declared name shown (KindIs.a_named_own k) = refl
  alias_declared name shown (KindIs.a_form k) = form_declared name shown k

  module _ (valid : IsValid r) where
    field_shown : (tree : FieldTree) (field : Field) → FieldIs r.types.items tree field → plain_field (shown_field r field) ≡ tree
    field_shown tree field k = λ i. record { docs = k.docs i; name = k.name i; ty = type_shown r valid k.ty i }

    case_shown : (tree : CaseTree) (case : Case) → CaseIs r.types.items tree case → plain_case (shown_case r case) ≡ tree
    case_shown tree case k = λ i. record { docs = k.docs i; name = k.name i; payload = payload_shown r valid k.payload i }

    -- what is shown of a kind under a name
    pub kind_shown : (shown : List ResourceMember) {declared : Declared} {kind : TypeDefKind} → DeclaredKind r.types.items declared kind
        → AreFunctionsOf shown declared
        → plain_declared (declared_of r (declared_name declared) shown kind) ≡ declared
    kind_shown shown (DeclaredKind.a_record name {r = of} k) h = ap (RecordOf name)
        (map_of_map plain_field (shown_field r) of.fields.items ∙ each_mapped (λ f. plain_field (shown_field r f)) field_shown k)
    kind_shown shown (DeclaredKind.a_variant name {v = of} k) h = ap (VariantOf name)
        (map_of_map plain_case (shown_case r) of.cases.items ∙ each_mapped (λ c. plain_case (shown_case r c)) case_shown k)
    kind_shown shown (DeclaredKind.a_flags name k) h = ap (FlagsOf name) (each_mapped shown_flag flag_shown k)
    kind_shown shown (DeclaredKind.an_enum name k) h = ap (EnumOf name) (each_mapped shown_enum_case enum_case_shown k)
    kind_shown shown (DeclaredKind.an_alias name k) h = ap plain_declared (alias_declared name shown k) ∙ ap (AliasOf name) (alias_shown r valid k)
    kind_shown shown (DeclaredKind.a_resource name members) h = ap (ResourceOf name) h

    -- What is shown of a definition is what declares it, in its plain form.
    pub declared_shown : (functions : List Function) (id : TypeId) {owner : TypeOwner} {prefix : Prefix} {declared : Declared} {def : TypeDef}
        → DeclaredStands r.types.items owner prefix declared def → AreFunctionsOf (map (shown_resource_member r) (filter (belongs_to id) functions)) declared
        → plain_declared (shown_declared r functions id def) ≡ declared
    declared_shown functions id {declared = declared} {def = def} k h =
        ap (λ name. plain_declared (declared_of r name (map (shown_resource_member r) (filter (belongs_to id) functions)) def.kind))
        (present def.name (declared_name declared) k.front.named)
        ∙ kind_shown (map (shown_resource_member r) (filter (belongs_to id) functions)) k.kind h
