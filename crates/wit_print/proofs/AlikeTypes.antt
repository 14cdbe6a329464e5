-- Where two `Resolve`s differ in documentation alone, what is shown of their types differs in documentation alone.
use Rattle.std.proofs.Common.{rules as std_rules, ◌≡◌, refl, ap, ◌∙◌, ℕ, zero, suc, Bool, false, ◌&&◌, ◌==◌, List, [], ◌∷◌, ◌++◌, map, filter, drop, Option, Some, None, option_map, option_and_then, unwrap_or, slice_get}
use Rattle.std.specs.{Prelude.String, Prelude.is_none, Prelude.if◌then◌else◌, Option.option_map_or, List.AllZip}
use Rattle.std.specs.declared.alloc.Global.{Global}
use Rattle.wit_model.specs.declared.model.{Resolve.Resolve, TypeDefKind.TypeDefKind, «Type».«Type» as ValueType, Stability.Stability}
use Rattle.wit_model.specs.declared.model.{TypeDef.TypeDef, TypeId.TypeId, Function.Function, Param.Param, Field.Field, Case.Case, Flag.Flag, EnumCase.EnumCase}
use Rattle.wit_model.specs.{Text.optional_text, Lookup.type_at, Lookup.is_async, Lookup.resource_of, Rules.is_own_of, Rules.is_own_kind}
use Rattle.wit_print.specs.Documentation.{AlikeGates, AlikeParams, AlikeFields, AlikeCases, AlikeFlags, AlikeEnumCases, AlikeKinds, AlikeTypes, AlikeFunctions, DifferInDocumentation}
use Rattle.wit_print.specs.Documentation.AlikeGates.{unknown, stable, unstable}
use Rattle.wit_print.specs.Documentation.AlikeKinds.{records, resources, handles, flags, tuples, variants, enums, options, results, lists, maps, fixed_lists, futures, streams, aliases}
use Rattle.print_grammar.specs.{Tree.TypeTree, Tree.Gates.Since, Tree.Gates.Unstable, Tree.TypeTree.TupleOf}
use Rattle.print_grammar.specs.Tree.Declared.{RecordOf, VariantOf, FlagsOf, EnumOf, AliasOf, ResourceOf}
use Rattle.print_grammar.specs.AsRead.{bare_prefix, bare_field, bare_case, bare_label, bare_resource_member, bare_declared}
use Rattle.print_items.specs.Shown.{present_name, shown_gates, shown_external_id, type_name, used_type, used_type_trees, result_type_tree, kind_tree, def_tree, trees_from, type_trees, shown_type, shown_field, shown_case, shown_flag, shown_enum_case, belongs_to, shown_param, shown_params, shown_signature, constructor_result, function_prefix, shown_resource_member, shown_declared}
use Rattle.wit_model.specs.declared.model.TypeDefKind.TheVariants as defined
use Rattle.wit_model.specs.declared.model.Handle.TheVariants as handle
use Rattle.wit_model.specs.declared.model.«Type».TheVariants as value

abbrev pub same : TypeTree → TypeTree
same ty = ty

-- ---- lists and options, place by place

-- two that are both there and alike, or neither
abbrev pub Both : {X : Type 0} → (X → X → Type 0) → Option X → Option X → Type 0
Both R None None = Unit {0}
Both R None (Some y) = ⊥
Both R (Some x) None = ⊥
Both R (Some x) (Some y) = R x y

pub at_both : {X : Type 0} (R : X → X → Type 0) (xs ys : List X) (n : ℕ) → AllZip R xs ys → Both R (slice_get xs n) (slice_get ys n)
at_both R [] [] n h = tt
at_both R [] (y ∷ ys) n h = absurd h
at_both R (x ∷ xs) [] n h = absurd h
at_both R (x ∷ xs) (y ∷ ys) zero h = h.0
at_both R (x ∷ xs) (y ∷ ys) (suc n) h = at_both R xs ys n h.1

pub or_alike : {X Y : Type 0} (R : X → X → Type 0) (f g : X → Y) (d : Y) → ((x y : X) → R x y → f x ≡ g y) → (o p : Option X) → Both R o p → option_map_or f o d ≡ option_map_or g p d
or_alike z f g d each u v h = search std_rules

pub then_alike : {X Y : Type 0} (R : X → X → Type 0) (f g : X → Option Y) → ((x y : X) → R x y → f x ≡ g y) → (o p : Option X) → Both R o p → option_and_then f o ≡ option_and_then g p
then_alike z f g each u v h = search std_rules

pub map_alike : {X Y : Type 0} (R : X → X → Type 0) (f g : X → Y) → ((x y : X) → R x y → f x ≡ g y) → (xs ys : List X) → AllZip R xs ys → map f xs ≡ map g ys
map_alike R f g each [] [] h = refl
map_alike R f g each [] (y ∷ ys) h = absurd h
map_alike R f g each (x ∷ xs) [] h = absurd h
map_alike R f g each (x ∷ xs) (y ∷ ys) h = λ i. each x y h.0 i ∷ map_alike R f g each xs ys h.1 i

-- two steps of which the second takes documentation away
pub bare_map_alike : {X Y Z : Type 0} (R : X → X → Type 0) (bare : Y → Z) (f g : X → Y) → ((x y : X) → R x y → bare (f x) ≡ bare (g y)) → (xs ys : List X) → AllZip R xs ys
    → map bare (map f xs) ≡ map bare (map g ys)
bare_map_alike R bare f g each [] [] h = refl
bare_map_alike R bare f g each [] (y ∷ ys) h = absurd h
bare_map_alike R bare f g each (x ∷ xs) [] h = absurd h
bare_map_alike R bare f g each (x ∷ xs) (y ∷ ys) h = λ i. each x y h.0 i ∷ bare_map_alike R bare f g each xs ys h.1 i

pub filter_alike : {X : Type 0} (R : X → X → Type 0) (p : X → Bool) → ((x y : X) → R x y → p x ≡ p y) → (xs ys : List X) → AllZip R xs ys → AllZip R (filter p xs) (filter p ys)
filter_alike R p each [] [] h = tt
filter_alike R p each [] (y ∷ ys) h = absurd h
filter_alike R p each (x ∷ xs) [] h = absurd h
filter_alike R p each (x ∷ xs) (y ∷ ys) h = search (std_rules, filter_alike R p each xs ys h.1)

rest_alike : {X : Type 0} (R : X → X → Type 0) (xs ys : List X) → AllZip R xs ys → AllZip R (drop 1 xs) (drop 1 ys)
rest_alike x y z h = search std_rules

-- ---- texts

pub name_alike : (x y : Option (String Global)) → optional_text x ≡ optional_text y → present_name x ≡ present_name y
name_alike x y h = search std_rules

pub external_id_alike : (x y : Option (String Global)) → optional_text x ≡ optional_text y → shown_external_id x ≡ shown_external_id y
external_id_alike x y h = search std_rules

pub gates_alike : (s t : Stability) → AlikeGates s t → shown_gates s ≡ shown_gates t
gates_alike s t unknown = refl
gates_alike s t (stable v d) = λ i. Since (v i) (d i)
gates_alike s t (unstable f d) = λ i. Unstable (f i) (d i)

none_alike : (x y : Option (String Global)) → optional_text x ≡ optional_text y → is_none x ≡ is_none y
none_alike x y h = search std_rules

own_kind_alike : (n : ℕ) (k l : TypeDefKind) → AlikeKinds k l → is_own_kind n k ≡ is_own_kind n l
own_kind_alike n k l x = search std_rules

module _ (a b : Resolve) (alike : DifferInDocumentation a b) where
  -- ---- types

  pub types_at : (n : ℕ) → Both AlikeTypes (type_at a n) (type_at b n)
  types_at n = at_both AlikeTypes a.types.items b.types.items n alike.types

  type_name_alike : (id : TypeId) → type_name a id ≡ type_name b id
  type_name_alike id = or_alike AlikeTypes (λ d. present_name d.name) (λ d. present_name d.name) [] (λ x y h. name_alike x.name y.name h.name) (type_at a id.0) (type_at b id.0) (types_at id.0)

  kind_alike : (trees : List TypeTree) (k l : TypeDefKind) → AlikeKinds k l → kind_tree a trees k ≡ kind_tree b trees l
  kind_alike trees k l (handles {h = handle.Own id}) = ap TypeTree.Handle (type_name_alike id)
  kind_alike trees k l (handles {h = handle.Borrow id}) = ap TypeTree.Borrow (type_name_alike id)
  kind_alike trees k l (tuples h) = ap (λ types. TupleOf (used_type_trees trees types)) h
  kind_alike trees k l (results h g) = λ i. result_type_tree (option_map (used_type trees) (h i)) (option_map (used_type trees) (g i))
  kind_alike trees k l _ = refl

  def_alike : (trees : List TypeTree) (d e : TypeDef) → AlikeTypes d e → def_tree a trees d ≡ def_tree b trees e
  def_alike trees d e h = search (std_rules, kind_alike, unwrap_or)

  trees_alike : (trees : List TypeTree) (ds es : List TypeDef) → AllZip AlikeTypes ds es → trees_from a trees ds ≡ trees_from b trees es
  trees_alike trees [] [] h = refl
  trees_alike trees [] (e ∷ es) h = absurd h
  trees_alike trees (d ∷ ds) [] h = absurd h
  trees_alike trees (d ∷ ds) (e ∷ es) h = trees_alike (trees ++ def_tree a trees d ∷ []) ds es h.1 ∙ ap (λ t. trees_from b (trees ++ t ∷ []) es) (def_alike trees d e h.0)

  all_trees_alike : type_trees a ≡ type_trees b
  all_trees_alike = trees_alike [] a.types.items b.types.items alike.types

  type_alike : (t : ValueType) → shown_type a t ≡ shown_type b t
  type_alike t = ap (λ trees. used_type trees t) all_trees_alike

  optional_type_alike : (s t : Option ValueType) → s ≡ t → option_map (shown_type a) s ≡ option_map (shown_type b) t
  optional_type_alike s t h = λ i. option_map (λ ty. type_alike ty i) (h i)

  -- ---- functions

  param_alike : (p q : Param) → AlikeParams p q → shown_param a p ≡ shown_param b q
  param_alike p q h = λ i. record { name = h.name i; ty = type_alike (h.ty i) i }

  params_alike : (f g : Function) → AlikeFunctions f g → shown_params a f ≡ shown_params b g
  params_alike f g h = search (std_rules, map_alike, param_alike, rest_alike)

  pub signature_alike : (f g : Function) → AlikeFunctions f g → shown_signature a f ≡ shown_signature b g
  signature_alike f g h = λ i. record { is_async = is_async (h.kind i); params = params_alike f g h i; result = optional_type_alike f.result g.result h.result i }

  pub function_prefix_alike : (f g : Function) → AlikeFunctions f g → bare_prefix same (function_prefix f) ≡ bare_prefix same (function_prefix g)
  function_prefix_alike f g h = λ i. record { docs = []; gates = gates_alike f.stability g.stability h.gates i; external_id = external_id_alike f.external_id g.external_id h.external_id i }

  own_alike : (n : ℕ) (x y : TypeDef) → AlikeTypes x y → is_own_of n x ≡ is_own_of n y
  own_alike n x y h = λ i. none_alike x.name y.name h.name i && own_kind_alike n x.kind y.kind h.kind i

  constructor_alike : (id : TypeId) (result : Option ValueType) → constructor_result a id result ≡ constructor_result b id result
  constructor_alike id None = refl
  constructor_alike id (Some (value.Id t)) =
      let given = or_alike AlikeTypes (is_own_of id.0) (is_own_of id.0) false (own_alike id.0) (type_at a t.0) (type_at b t.0) (types_at t.0) in
      λ i. (if given i then None else Some (type_alike (value.Id t) i))
  constructor_alike id (Some t) = ap Some (type_alike t)

  resource_member_alike : (f g : Function) → AlikeFunctions f g → bare_resource_member same (shown_resource_member a f) ≡ bare_resource_member same (shown_resource_member b g)
  resource_member_alike f g h = search (std_rules, function_prefix_alike, constructor_alike, params_alike, signature_alike)

  -- ---- declared types

  field_alike : (f g : Field) → AlikeFields f g → bare_field same (shown_field a f) ≡ bare_field same (shown_field b g)
  field_alike f g h = λ i. record { docs = []; name = h.name i; ty = type_alike (h.ty i) i }

  case_alike : (c d : Case) → AlikeCases c d → bare_case same (shown_case a c) ≡ bare_case same (shown_case b d)
  case_alike c d h = λ i. record { docs = []; name = h.name i; payload = option_map same (optional_type_alike c.ty d.ty h.ty i) }

  flag_alike : (f g : Flag) → AlikeFlags f g → bare_label same (shown_flag f) ≡ bare_label same (shown_flag g)
  flag_alike f g h = λ i. record { docs = []; name = h i }

  enum_case_alike : (c d : EnumCase) → AlikeEnumCases c d → bare_label same (shown_enum_case c) ≡ bare_label same (shown_enum_case d)
  enum_case_alike c d h = λ i. record { docs = []; name = h i }

  belongs_alike : (id : TypeId) (f g : Function) → AlikeFunctions f g → belongs_to id f ≡ belongs_to id g
  belongs_alike id f g h = ap (λ k. option_map_or (λ n. n == id.0) (resource_of k) false) h.kind

  -- What is declared differs in documentation alone, among functions that do.
  pub declared_alike : (fs gs : List Function) → AllZip AlikeFunctions fs gs → (id : TypeId) (d e : TypeDef) → AlikeTypes d e
      → bare_declared same (shown_declared a fs id d) ≡ bare_declared same (shown_declared b gs id e)
  declared_alike fs gs functions id d e h = go d.kind e.kind h.kind
    where
      name : present_name d.name ≡ present_name e.name
      name = name_alike d.name e.name h.name

      kinds : (k l : TypeDefKind) → AlikeKinds k l → kind_tree a (type_trees a) k ≡ kind_tree b (type_trees b) l
      kinds k l q = kind_alike (type_trees a) k l q ∙ ap (λ trees. kind_tree b trees l) all_trees_alike

      go : (k l : TypeDefKind) → AlikeKinds k l → bare_declared same (shown_declared a fs id (record d { kind = k })) ≡ bare_declared same (shown_declared b gs id (record e { kind = l }))
      go (defined.Record x) (defined.Record y) (records q) = λ i. RecordOf (name i)
          (bare_map_alike AlikeFields (bare_field same) (shown_field a) (shown_field b) field_alike x.fields.items y.fields.items q i)
      go k l resources = λ i. ResourceOf (name i) (bare_map_alike AlikeFunctions (bare_resource_member same) (shown_resource_member a) (shown_resource_member b) resource_member_alike
          (filter (belongs_to id) fs) (filter (belongs_to id) gs) (filter_alike AlikeFunctions (belongs_to id) (belongs_alike id) fs gs functions) i)
      go (defined.Flags x) (defined.Flags y) (flags q) = λ i. FlagsOf (name i) (bare_map_alike AlikeFlags (bare_label same) shown_flag shown_flag flag_alike x.flags.items y.flags.items q i)
      go (defined.Variant x) (defined.Variant y) (variants q) = λ i. VariantOf (name i)
          (bare_map_alike AlikeCases (bare_case same) (shown_case a) (shown_case b) case_alike x.cases.items y.cases.items q i)
      go (defined.Enum x) (defined.Enum y) (enums q) = λ i. EnumOf (name i)
          (bare_map_alike AlikeEnumCases (bare_label same) shown_enum_case shown_enum_case enum_case_alike x.cases.items y.cases.items q i)
      go k l (handles {h = handle.Own r}) = λ i. AliasOf (name i) (TypeTree.Own (type_name_alike r i))
      go k l (handles {h = handle.Borrow r}) = λ i. AliasOf (name i) (TypeTree.Borrow (type_name_alike r i))
      go (defined.Tuple x) (defined.Tuple y) (tuples q) = λ i. AliasOf (name i) (kinds (defined.Tuple x) (defined.Tuple y) (tuples q) i)
      go (defined.Result x) (defined.Result y) (results q p) = λ i. AliasOf (name i) (kinds (defined.Result x) (defined.Result y) (results q p) i)
      go (defined.Option t) (defined.Option u) options = λ i. AliasOf (name i) (kinds (defined.Option t) (defined.Option t) options i)
      go (defined.List t) (defined.List u) lists = λ i. AliasOf (name i) (kinds (defined.List t) (defined.List t) lists i)
      go (defined.Map t u) (defined.Map v w) maps = λ i. AliasOf (name i) (kinds (defined.Map t u) (defined.Map t u) maps i)
      go (defined.FixedLengthList t n) (defined.FixedLengthList u m) fixed_lists = λ i. AliasOf (name i) (kinds (defined.FixedLengthList t n) (defined.FixedLengthList t n) fixed_lists i)
      go (defined.Future t) (defined.Future u) futures = λ i. AliasOf (name i) (kinds (defined.Future t) (defined.Future t) futures i)
      go (defined.Stream t) (defined.Stream u) streams = λ i. AliasOf (name i) (kinds (defined.Stream t) (defined.Stream t) streams i)
      go (defined.Type_ t) (defined.Type_ u) aliases = λ i. AliasOf (name i) (kinds (defined.Type_ t) (defined.Type_ t) aliases i)
