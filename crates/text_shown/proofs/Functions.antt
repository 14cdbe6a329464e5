-- What is shown of functions is their plain trees. Serves Interfaces.
use Rattle.std.proofs.Common.{rules as std_rules, ◌≡◌, refl, sym, ap, ◌∙◌, ℕ, ◌+◌, Bool, true, false, ◌&&◌, ◌==◌, not, List, [], ◌∷◌, ◌++◌, append_assoc}
use Rattle.std.proofs.Common.{length, map, Option, Some, None, codes}
use Rattle.std.proofs.lemmas.{List.drop_at, List.length_push}
use Rattle.std.specs.{Prelude.if◌then◌else◌, Prelude.is_none, List.list_all, List.position_or_len, Option.option_map_or}
use Rattle.wit_model.specs.declared.model.{Resolve.Resolve, TypeDefKind.TypeDefKind, TypeId.TypeId, Function.Function, Param.Param, «Type».«Type» as ValueType}
use Rattle.wit_model.specs.declared.model.FunctionKind.TheVariants as function
use Rattle.wit_model.specs.declared.model.TypeDefKind.TheVariants as defined
use Rattle.wit_model.specs.declared.model.«Type».TheVariants as value
use Rattle.wit_model.specs.{Text.Text, Text.text_of, Names.is_label, Names.method_name, Names.static_name, Calls.after_dot, Rules.is_own_of}
use Rattle.wit_model.specs.{Rules.is_own_kind, Valid.IsValid}
use Rattle.wit_model.proofs.NameLaws.{label_lacks}
use Rattle.print_grammar.specs.Tree.{TypeTree, Prefix, ParamTree, SignatureTree, ResourceMember, PackageHead, MemberTree.FunctionMember}
use Rattle.print_grammar.specs.Tree.{ResourceMember.Constructor, ResourceMember.Method, ResourceMember.Static}
use Rattle.print_items.specs.Shown.{function_prefix, shown_type, shown_param, shown_signature, constructor_result, shown_resource_member, shown_function}
use Rattle.text_types.specs.{Each.EachIs, Plain.plain_param, Plain.plain_signature, Plain.plain_result, Plain.plain_type, Plain.plain_resource_member}
use Rattle.text_types.specs.Functions.{ParamIs, HasFront, FunctionStands, FreeStands, MemberStands, Constructs, is_result_tree, method_kind, static_kind}
use Rattle.text_types.specs.Kept.{IsUnnamed}
use Rattle.text_types.specs.Stands.{Stands, FormIs}
use Rattle.wit_model.specs.declared.model.Handle.TheVariants as handle
use Rattle.base_lemmas.proofs.{Bools.left_of, Bools.no-and, Bools.right_of, Numbers.same-number, Elements.joined_well, Lists.map_of_map}
use Rattle.text_shown.specs.Same.{plain_members}
use Rattle.text_shown.proofs.{Declared.each_mapped, Types.payload_shown, Types.type_shown}

-- ---- what stands in front

pub prefix_shown : {prefix : Prefix} {f : Function} → HasFront prefix f → function_prefix f ≡ prefix
prefix_shown k = λ i. record { docs = k.docs i; gates = k.gates i; external_id = k.external_id i }

-- ---- names behind a dot

-- a byte that is no dot
abbrev is_no_dot : ℕ → Bool
is_no_dot b = not (b == 46)

first_dot : (xs ys : Text) → list_all is_no_dot xs ≡ true → position_or_len (λ b. b == 46) (xs ++ (46 ∷ ys)) ≡ length xs
first_dot [] ys h = refl
first_dot (x ∷ xs) ys h = search (std_rules, left_of, right_of, first_dot xs ys (right_of (is_no_dot x) _ h))

after_first_dot : (xs ys : Text) → list_all is_no_dot xs ≡ true → after_dot (xs ++ (46 ∷ ys)) ≡ ys
after_first_dot xs ys h =
    search (std_rules, first_dot xs ys h, append_assoc xs (46 ∷ []) ys, drop_at (xs ++ (46 ∷ [])) ys (length xs + 1) (length_push xs 46), length_push xs 46)

-- a name behind a front, a label and a dot
name_behind : (front resource name : Text) → list_all is_no_dot front ≡ true → is_label resource ≡ true → after_dot (front ++ (resource ++ (46 ∷ name))) ≡ name
name_behind front resource name plain label =
    ap after_dot (sym (append_assoc front resource (46 ∷ name)))
    ∙ after_first_dot (front ++ resource) name (joined_well is_no_dot front resource plain (label_lacks 46 refl resource label))

method_behind : (resource name : Text) → is_label resource ≡ true → after_dot (method_name resource name) ≡ name
method_behind resource name label = name_behind (codes "[method]") resource name refl label

static_behind : (resource name : Text) → is_label resource ≡ true → after_dot (static_name resource name) ≡ name
static_behind resource name label = name_behind (codes "[static]") resource name refl label

module _ (r : Resolve) (valid : IsValid r) where
  param_shown : (tree : ParamTree) (param : Param) → ParamIs r.types.items tree param → plain_param (shown_param r param) ≡ tree
  param_shown tree param k = λ i. record { name = k.name i; ty = type_shown r valid k.ty i }

  params_shown : {trees : List ParamTree} {params : List Param} → EachIs (ParamIs r.types.items) trees params
      → map plain_param (map (shown_param r) params) ≡ trees
  params_shown {params = params} k = map_of_map plain_param (shown_param r) params ∙ each_mapped (λ p. plain_param (shown_param r p)) param_shown k

  -- what is shown of a function's type
  pub signature_shown : {tree : SignatureTree} {f : Function} → FunctionStands r.types.items tree f → plain_signature (shown_signature r f) ≡ tree
  signature_shown k = λ i. record { is_async = k.waits i; params = params_shown k.params i; result = payload_shown r valid k.result i }

  -- what is shown of a function that belongs to no resource
  pub function_shown : (here : PackageHead) {prefix : Prefix} {name : Text} {tree : SignatureTree} {f : Function}
      → FreeStands r.types.items prefix name tree f
      → plain_members here (shown_function r f) ≡ FunctionMember prefix name tree ∷ []
  function_shown here k = λ i. FunctionMember (prefix_shown k.front i) (k.named i) (signature_shown k.stands i) ∷ []

  -- ---- functions of resources

  -- a result with a value is no handle of a resource
  no_own : {tree : TypeTree} {kind : TypeDefKind} (n : ℕ) → is_result_tree tree ≡ true → FormIs r.types.items tree kind → is_own_kind n kind ≡ false
  no_own n h (FormIs.a_borrow k) = refl
  no_own n h (FormIs.a_tuple k) = refl
  no_own n h (FormIs.an_option k) = refl
  no_own n h (FormIs.a_list k) = refl
  no_own n h (FormIs.a_fixed_list m k) = refl
  no_own n h (FormIs.a_map k g) = refl
  no_own n h FormIs.a_result = refl
  no_own n h (FormIs.a_result_ok k) = refl
  no_own n h (FormIs.a_result_err k) = refl
  no_own n h (FormIs.a_result_of k g) = refl
  no_own n h FormIs.a_future = refl
  no_own n h (FormIs.a_future_of k) = refl
  no_own n h FormIs.a_stream = refl
  no_own n h (FormIs.a_stream_of k) = refl

  -- a type that is such a result is shown
  result_given : (id : TypeId) {tree : TypeTree} {ty : ValueType} → is_result_tree tree ≡ true → Stands r.types.items tree ty
      → constructor_result r id (Some ty) ≡ Some (shown_type r ty)
  result_given id h (Stands.a_primitive p) = absurd cc
  result_given id h (Stands.a_name k) = absurd cc
  result_given id h (Stands.an_own_handle k g) = absurd cc
  result_given id h (Stands.unnamed {id = t} {kind = kind} k g) =
      let none : is_own_of id.0 k.def ≡ false = ap (λ kind. is_none k.def.name && is_own_kind id.0 kind) k.has
      ∙ ap (λ b. is_none k.def.name && b) (no_own id.0 h g) ∙ no-and (is_none k.def.name) in
      ap (λ o. if option_map_or (is_own_of id.0) o false then None else Some (shown_type r (value.Id t))) k.there
      ∙ ap (λ b. if b then None else Some (shown_type r (value.Id t))) none

  plain_result_of : (resource : Text) (tree : TypeTree) → is_result_tree tree ≡ true → plain_result resource tree ≡ Some tree
  plain_result_of resource tree h = search std_rules

  -- the resource of a constructor isn't written
  own_left : (id : TypeId) {ty : ValueType} → IsUnnamed r.types.items (defined.Handle (handle.Own id)) ty → constructor_result r id (Some ty) ≡ None
  own_left id k =
      let own : is_own_of id.0 k.there.def ≡ true = ap (λ o. is_none o && is_own_kind id.0 k.there.def.kind) k.there.unnamed
      ∙ ap (is_own_kind id.0) k.there.has ∙ same-number id.0 in
      ap (constructor_result r id) (ap Some k.is)
      ∙ ap (λ o. if option_map_or (is_own_of id.0) o false then None else Some (shown_type r (value.Id k.id))) k.there.there
      ∙ ap (λ b. if b then None else Some (shown_type r (value.Id k.id))) own

  constructed : (resource : Text) (id : TypeId) {result : Option TypeTree} {ty : Option ValueType} → Constructs r.types.items id result ty
      → option_map_or (λ tree. plain_result resource (plain_type tree)) (constructor_result r id ty) None ≡ result
  constructed resource id (Constructs.its_resource k) = ap (λ o. option_map_or (λ tree. plain_result resource (plain_type tree)) o None) (own_left id k)
  constructed resource id (Constructs.a_result {tree = tree} h k) = ap (λ o. option_map_or (λ t. plain_result resource (plain_type t)) o None)
      (result_given id h k)
      ∙ ap (plain_result resource) (type_shown r valid k) ∙ plain_result_of resource tree h

  constructor_is : (id : TypeId) (f : Function) → f.kind ≡ function.Constructor id
      → shown_resource_member r f ≡ Constructor (function_prefix f) (map (shown_param r) f.params.items) (constructor_result r id f.result)
  constructor_is id f e = ap (λ k. shown_resource_member r (record f { kind = k })) e

  method_is : (waits : Bool) (id : TypeId) (f : Function) → f.kind ≡ method_kind waits id
      → shown_resource_member r f ≡ Method (function_prefix f) (after_dot (text_of f.name)) (shown_signature r f)
  method_is true id f e = ap (λ k. shown_resource_member r (record f { kind = k })) e
      ∙ ap (λ k. Method (function_prefix f) (after_dot (text_of f.name)) (shown_signature r (record f { kind = k }))) (sym e)
  method_is false id f e = ap (λ k. shown_resource_member r (record f { kind = k })) e
      ∙ ap (λ k. Method (function_prefix f) (after_dot (text_of f.name)) (shown_signature r (record f { kind = k }))) (sym e)

  static_is : (waits : Bool) (id : TypeId) (f : Function) → f.kind ≡ static_kind waits id
      → shown_resource_member r f ≡ Static (function_prefix f) (after_dot (text_of f.name)) (shown_signature r f)
  static_is true id f e = ap (λ k. shown_resource_member r (record f { kind = k })) e
      ∙ ap (λ k. Static (function_prefix f) (after_dot (text_of f.name)) (shown_signature r (record f { kind = k }))) (sym e)
  static_is false id f e = ap (λ k. shown_resource_member r (record f { kind = k })) e
      ∙ ap (λ k. Static (function_prefix f) (after_dot (text_of f.name)) (shown_signature r (record f { kind = k }))) (sym e)

  -- What is shown of a function of a resource is its plain tree.
  pub member_shown : {resource : Text} {id : TypeId} {member : ResourceMember} {f : Function} → is_label resource ≡ true
      → MemberStands r.types.items resource id member f → plain_resource_member resource (shown_resource_member r f) ≡ member
  member_shown {resource = resource} {id = id} {f = f} label (MemberStands.a_constructor front named kind params result) =
      ap (plain_resource_member resource) (constructor_is id f kind)
      ∙ (λ i. Constructor (prefix_shown front i) (params_shown params i) (constructed resource id result i))
  member_shown {resource = resource} {id = id} {f = f} label (MemberStands.a_method {name = name} {tree = tree} front named kind stands) =
      ap (plain_resource_member resource) (method_is tree.is_async id f kind)
      ∙ (λ i. Method (prefix_shown front i) ((ap after_dot named ∙ method_behind resource name label) i) (signature_shown stands i))
  member_shown {resource = resource} {id = id} {f = f} label (MemberStands.a_static {name = name} {tree = tree} front named kind stands) =
      ap (plain_resource_member resource) (static_is tree.is_async id f kind)
      ∙ (λ i. Static (prefix_shown front i) ((ap after_dot named ∙ static_behind resource name label) i) (signature_shown stands i))
