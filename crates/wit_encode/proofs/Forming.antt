-- The trees of valid kinds are well formed, where the names stand for resources as their types do.
use Rattle.std.proofs.Common.{rules as std_rules, ◌≡◌, refl, ap, ◌∙◌, suc, true, not, nat_le, List, [], ◌∷◌, ◌++◌, map, filter_map, Option, Some, None, option_map, option_to_list, arith}
use Rattle.std.proofs.lemmas.Bool.{and_from as both}
use Rattle.std.specs.List.{Contains, list_all}
use Rattle.wit_model.specs.{Text.Text, Text.text_of, Parts.member_types, Parts.handled, Parts.is_resource, Parts.is_resource_type, Parts.is_resource_kind}
use Rattle.wit_model.specs.{Tree.Tree, Tree.child_list, Tree.children, Tree.given_trees, Tree.is_given, Types.type_tree, Types.declared_by, Types.trees_of}
use Rattle.wit_model.specs.Rules.{has_shape, has_items, is_map_key, passes}
use Rattle.wit_model.specs.declared.model.{Resolve.Resolve, Field.Field, Case.Case, TypeDefKind.TypeDefKind, «Type».«Type» as ValueType}
use Rattle.comp_meaning.specs.Follow.{is_key, is_filled}
use Rattle.encode_types.specs.Kinds.{parts_of, has_definition, kind_tree}
use Rattle.encode_types.specs.{Resources.Names, Resources.is_resource_tree, Resources.is_resource_declaration, Formed.are_values, Formed.is_formed}
use Rattle.base_lemmas.proofs.Bools.{left_of as first_true, right_of as second_true}
use Rattle.wit_model.proofs.{TreeLemmas.child_list_of_children as children-list, RulesLemmas.items_of_map as filled-map}
use Rattle.wit_model.specs.declared.model.TypeDefKind.TheVariants as kind
use Rattle.wit_model.specs.declared.model.Handle.TheVariants as handle
use Rattle.wit_model.specs.declared.model.«Type».TheVariants as ty

-- ---- children

filled-twice : {A B C : Type 0} (g : B → C) (f : A → B) (xs : List A) → has_items xs ≡ true → is_filled (map g (map f xs)) ≡ true
filled-twice g f x e = search std_rules

field-children : (r : Resolve) (xs : List Field) → child_list (children (map (λ f. f.1) (map {B = Text × Tree} (λ f. (text_of f.name, type_tree r f.ty)) xs))) ≡ map (type_tree r) (map (λ f. f.ty) xs)
field-children r [] = refl
field-children r (x ∷ xs) = ap (λ us. type_tree r x.ty ∷ us) (field-children r xs)

case-children : (r : Resolve) (xs : List Case)
    → child_list (given_trees (map (λ c. c.1) (map {B = Text × Option Tree} (λ c. (text_of c.name, option_map (type_tree r) c.ty)) xs))) ≡ map (type_tree r) (filter_map (λ c. c.ty) xs)
case-children r [] = refl
case-children r (x ∷ xs) = search (std_rules, case-children r xs)

-- names stand for resources exactly where these types are resources
abbrev pub Agree : Resolve → Names → List ValueType → Type 0
Agree r resources ts = (t : ValueType) → Contains ts t → is_resource_tree resources (type_tree r t) ≡ is_resource_type r t

module _ (r : Resolve) (resources : Names) where
  agree-rest : (t : ValueType) (ts : List ValueType) → Agree r resources (t ∷ ts) → Agree r resources ts
  agree-rest t ts a u c = a u (suc c.0, omega (arith, c.1), c.2)

  agree-first : (t : ValueType) (ts : List ValueType) → Agree r resources (t ∷ ts) → is_resource_tree resources (type_tree r t) ≡ is_resource_type r t
  agree-first t ts a = a t (0, omega arith, refl)

  pub values-of : (ts : List ValueType) → list_all (λ t. not (is_resource_type r t)) ts ≡ true → Agree r resources ts → are_values resources (map (type_tree r) ts) ≡ true
  values-of [] h a = refl
  values-of (t ∷ ts) h a = search (
    std_rules,
    both,
    agree-first,
    first_true,
    second_true,
    agree-rest,
    values-of ts (second_true (not (is_resource_type r t)) (list_all (λ t. not (is_resource_type r t)) ts) h) (agree-rest t ts a),
  )

  pub optional-values : (o : Option ValueType) → list_all (λ t. not (is_resource_type r t)) (option_to_list o) ≡ true → Agree r resources (option_to_list o)
      → are_values resources (option_to_list (option_map (type_tree r) o)) ≡ true
  optional-values x h a = search std_rules

  by-children : (ts us : List Tree) → us ≡ ts → are_values resources ts ≡ true → are_values resources us ≡ true
  by-children ts us e h = ap (are_values resources) e ∙ h

  key-tree : (t : ValueType) → is_map_key t ≡ true → is_key (type_tree r t) ≡ true
  key-tree x h = search std_rules

  -- ---- kinds
  abbrev Values : List ValueType → Type 0
  Values ts = list_all (λ t. not (is_resource_type r t)) ts ≡ true

  pub kind-formed : (k : TypeDefKind) → has_definition k ≡ true → has_shape k ≡ true → Values (member_types k) → passes (is_resource r) (handled k) ≡ true → Agree r resources (parts_of k)
      → is_formed resources (kind_tree r k) ≡ true
  kind-formed (kind.Record q) d s v h a = both _ _ (filled-twice (λ f. f.0) (λ f. (text_of f.name, type_tree r f.ty)) q.fields.items s)
      (by-children (map (type_tree r) (map (λ f. f.ty) q.fields.items)) _ (field-children r q.fields.items) (values-of _ v a))
  kind-formed (kind.Variant q) d s v h a = both _ _ (filled-twice (λ c. (c.0, is_given c.1)) (λ c. (text_of c.name, option_map (type_tree r) c.ty)) q.cases.items s)
      (by-children (map (type_tree r) (filter_map (λ c. c.ty) q.cases.items)) _ (case-children r q.cases.items) (values-of _ v a))
  kind-formed (kind.Flags q) d s v h a = filled-map _ q.flags.items ∙ s
  kind-formed (kind.Enum q) d s v h a = filled-map _ q.cases.items ∙ s
  kind-formed (kind.Tuple q) d s v h a = search (std_rules, both, children-list, filled-map, by-children, values-of)
  kind-formed (kind.Option t) d s v h a = values-of (t ∷ []) v a
  kind-formed (kind.List t) d s v h a = values-of (t ∷ []) v a
  kind-formed (kind.FixedLengthList t n) d s v h a = both _ _ (first_true (nat_le 1 n) _ s) (values-of (t ∷ []) v a)
  kind-formed (kind.Map k t) d s v h a = both _ _ (key-tree k s) (values-of (k ∷ t ∷ []) v a)
  kind-formed (kind.Result q) d s v h a = result-values q.ok q.err v a
    where
      result-values : (x y : Option ValueType) → Values (option_to_list x ++ option_to_list y) → Agree r resources (option_to_list x ++ option_to_list y)
          → are_values resources (child_list (given_trees (option_map (type_tree r) x ∷ option_map (type_tree r) y ∷ []))) ≡ true
      result-values None None v a = refl
      result-values None (Some y) v a = values-of (y ∷ []) v a
      result-values (Some x) None v a = values-of (x ∷ []) v a
      result-values (Some x) (Some y) v a = values-of (x ∷ y ∷ []) v a
  kind-formed (kind.Future o) d s v h a = search std_rules
  kind-formed (kind.Stream o) d s v h a = search std_rules
  kind-formed (kind.Handle (handle.Own id)) d s v h a = both _ _ (agree-first (ty.Id id) [] a ∙ h) refl
  kind-formed (kind.Handle (handle.Borrow id)) d s v h a = both _ _ (agree-first (ty.Id id) [] a ∙ h) refl
  kind-formed kind.Resource d s v h a = absurd cc
  kind-formed (kind.Type_ (ty.Id id)) d s v h a = absurd cc
  kind-formed _ d s v h a = refl

  -- a name stands for a resource exactly where its type is one
  pub kind-alike : (k : TypeDefKind) → Agree r resources (parts_of k) → is_resource_declaration resources (declared_by (trees_of r) k) ≡ is_resource_kind (is_resource r) k
  kind-alike x a = search std_rules
