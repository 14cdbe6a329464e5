-- Each rule of reading on types, functions and interfaces has the same answer in numbers.
use Rattle.std.proofs.Common.{◌≡◌, refl, sym, ap, ◌∙◌, ℕ, ◌+◌, ◌-◌, ◌<◌, min, Bool, true, false, not, ◌&&◌, ◌||◌, ◌==◌, cond, List, [], ◌∷◌, map, Option, Some, None, option_map, slice_get, codes, rules as std_rules}
use Rattle.std.proofs.lemmas.Bool.{eqb-true, eq-eqb, lt-ltb}
use Rattle.std.specs.{Prelude.option_and_then, Prelude.nat_le, List.AllByRecursion, List.Contains, List.list_any, Option.option_map_or}
use Rattle.wit_model.specs.{Text.Text, Text.text_eq, Names.is_label}
use Rattle.wit_model.specs.Tree.{Place, Form, Tree, Trees, TypeDeclaration, children, deepest, levels, Primitive}
use Rattle.comp_meaning.specs.{Same.same_place, Same.same_tree, Same.same_trees, Same.same_form}
use Rattle.comp_meaning.specs.Rules.{are_labels, form_labels, most_levels, are_parts, own_of_name, borrow_name}
use Rattle.comp_meaning.proofs.SameLaws.{places_decide}
use Rattle.plan_meaning.specs.Shapes.{Shape, form_code, first_label, named_shape, node_shape, IsTable}
use Rattle.plan_meaning.specs.NumberedViews.{FunctionShape, Tables, place_at, tree_at, signature_over, IsPart, AllOf, PartsOf, itself, inside, NumberedType, NumberedView, view_of, declaration_of, shown_type, ViewPasses}
use Rattle.plan_meaning.specs.NumberedRules.{Fact, most_counted, shape_at, name_in, only_of, held_in, own_sort, borrow_sort, ok_in, is_parameter_type, is_declared_form, is_declared, is_result_type, is_signature, is_name, is_handle, begins_with_self, constructs, is_function_of, is_function, resources_of, is_interface, IsSeenFrom, IsKnown, EachRuleInNumbers}
use Rattle.plan_meaning.proofs.{ShapeLaws.PartView, ShapeLaws.is_primitive, ShapeLaws.is_name as is_named, ShapeLaws.is_node, ShapeLaws.viewed, Lists.all_same}
use Rattle.plan_meaning.proofs.Words.{behind}
use Rattle.base_lemmas.proofs.{Bools.and-true as and_true, Bools.both_ways as either_way, Bools.no-and as and_false, Elements.get-contains, Elements.all_at}
use Rattle.base_lemmas.proofs.Lists.{map_of_map}
use Rattle.comp_meaning.specs.Rules as rules

-- ---- tests

most_levels_counted : (n : ℕ) → nat_le (min most_counted n) most_levels ≡ nat_le n most_levels
most_levels_counted n = search std_rules

-- ---- forms by their numbers

own_by_sort : (f : Form) → same_form f Form.own_of ≡ ((form_code f).sort == own_sort)
own_by_sort x = search std_rules

borrow_by_sort : (f : Form) → same_form f Form.borrow_of ≡ ((form_code f).sort == borrow_sort)
borrow_by_sort x = search std_rules

pub no_name : (f : Form) → ((form_code f).sort == 0) ≡ false
no_name x = search std_rules

-- ---- what stands at a number

pub no_shape : (t : Tables) (k : ℕ) → k < 14 → shape_at t k ≡ None
no_shape t k small = ap (λ b. option_and_then (slice_get t.shapes) (cond b None (Some (k - 14)))) (lt-ltb k 14 small)

pub shape_there : (t : Tables) (k n : ℕ) (s : Shape) → k ≡ 14 + n → slice_get t.shapes n ≡ Some s → shape_at t k ≡ Some s
shape_there t k n s is e = ap (shape_at t) is ∙ (ap (option_and_then (slice_get t.shapes)) (behind n) ∙ e)

-- what is said of the tree of a part, by what stands at its number
module _ (t : Tables) (table : IsTable t.shapes) {X : Type 0} (said : Tree → X) (by : Option Shape → X) (k : ℕ) where
  pub by_shape : IsPart t k → ((q : Primitive) → tree_at t k ≡ Tree.primitive q → said (Tree.primitive q) ≡ by None)
      → ((n q : ℕ) (name : Text) → k ≡ 14 + n → slice_get t.shapes n ≡ Some (named_shape q name) → tree_at t k ≡ Tree.named (place_at t q) name
      → said (Tree.named (place_at t q) name) ≡ by (Some (named_shape q name)))
      → ((n : ℕ) (form : Form) (ks : List ℕ) → k ≡ 14 + n → slice_get t.shapes n ≡ Some (node_shape form ks) → tree_at t k ≡ Tree.node form (children (map (tree_at t) ks))
      → AllByRecursion (IsPart t) ks → said (Tree.node form (children (map (tree_at t) ks))) ≡ by (Some (node_shape form ks))) → said (tree_at t k) ≡ by (shape_at t k)
  by_shape part primitive named node = go (viewed (place_at t) t.shapes table k part)
    where
      go : PartView (place_at t) t.shapes table k (tree_at t k) → said (tree_at t k) ≡ by (shape_at t k)
      go (is_primitive q small e number) = ap said e ∙ (primitive q e ∙ sym (ap by (no_shape t k small)))
      go (is_named n q name is there e) = ap said e ∙ (named n q name is there e ∙ sym (ap by (shape_there t k n (named_shape q name) is there)))
      go (is_node n form ks is there e ranges) = ap said e ∙ (node n form ks is there e ranges ∙ sym (ap by (shape_there t k n (node_shape form ks) is there)))

resources_same : (t : Tables) (xs : List NumberedType) → rules.resources_of (map (shown_type t) xs) ≡ resources_of xs
resources_same t [] = refl
resources_same t (x ∷ xs) = search (std_rules, resources_same t xs)

module _ (t : Tables) (table : IsTable t.shapes) (known : ℕ → Fact) (p : ℕ) where
  abbrev here : Place
  here = place_at t p

  abbrev Known : ℕ → Type 0
  Known = IsKnown t known p

  -- ---- levels and parts

  parameter_same : (k : ℕ) → Known k → rules.is_parameter_type here (tree_at t k) ≡ is_parameter_type p (known k)
  parameter_same k h = sym (λ i. h.tells.part i && (ap (λ n. nat_le n most_levels) h.tells.levels ∙ most_levels_counted (levels (tree_at t k))) i)

  form_same : (form : Form) (ts : Trees) (k : ℕ) → Known k → tree_at t k ≡ Tree.node form ts
      → (are_labels (form_labels form) && are_parts here ts && nat_le (deepest ts) most_levels) ≡ is_declared_form p (known k)
  form_same form ts k h e = search std_rules

  pub declared_same : (d : Option ℕ) → AllOf Known d → rules.is_declared here (declaration_of t d) ≡ is_declared t known p d
  declared_same None h = refl
  declared_same (Some k) h = by_shape t table (λ x. rules.is_declared here (TypeDeclaration.type_ x))
      (λ o. not (option_map_or (λ s. not (s.sort == 0)) o false) || is_declared_form p (known k)) k h.part
      (λ q e. refl) (λ n q name is there e. refl) (λ n form ks is there e ranges. form_same form (children (map (tree_at t) ks)) k h e
      ∙ sym (ap (λ b. not (not b) || is_declared_form p (known k)) (no_name form)))

  -- ---- signatures

  result_same : (r : Option ℕ) → AllOf Known r → rules.is_result_type here (option_map (tree_at t) r) ≡ is_result_type t known p r
  result_same x h = search std_rules

  pub signature_same : (f : FunctionShape) → PartsOf Known f → rules.is_signature here (signature_over (tree_at t) f) ≡ is_signature t known p f
  signature_same f h = search (std_rules, all_same, parameter_same, map_of_map, result_same)

  -- ---- resources

  module _ (resource : Text) where
    abbrev itself_named : Tree
    itself_named = Tree.named here resource

    name_same : (k : ℕ) → IsPart t k → IsSeenFrom t p k → same_tree (tree_at t k) itself_named ≡ is_name t known p resource k
    name_same k part seen =
        by_shape t table (λ x. same_tree x itself_named) (λ o. option_map_or (λ (x : ℕ × Text). x.0 == p && text_eq x.1 resource) (option_and_then name_in o) false) k part (λ q e. refl)
        (λ n q name is there e. ap (λ b. b && text_eq name resource) (either_way (same_place (place_at t q) here) (q == p)
        (λ h. eq-eqb q p ((seen q (itself k n q name is there)) ((places_decide (place_at t q) here).0 h))) (λ h. (places_decide (place_at t q) here).1 (ap (place_at t) (eqb-true q p h)))))
        (λ n form ks is there e ranges. sym (ap (λ b. option_map_or (λ (x : ℕ × Text). x.0 == p && text_eq x.1 resource)
        (cond b (Some ((form_code form).number, first_label (form_code form).labels)) None) false) (no_name form)))

    only_same : (ks : List ℕ) → AllByRecursion (IsPart t) ks → ((m : ℕ) → Contains ks m → IsSeenFrom t p m)
        → same_trees (children (map (tree_at t) ks)) (Trees.child itself_named Trees.no_children) ≡ option_map_or (is_name t known p resource) (only_of ks) false
    only_same [] parts seen = refl
    only_same (k ∷ []) parts seen = and_true (same_tree (tree_at t k) itself_named) ∙ name_same k parts.0 (seen k (get-contains (k ∷ []) 0 k refl))
    only_same (k ∷ l ∷ ks) parts seen = and_false (same_tree (tree_at t k) itself_named)

    module _ (handle : Form) (sort : ℕ) (by_sort : (f : Form) → same_form f handle ≡ ((form_code f).sort == sort)) (not_name : (0 == sort) ≡ false) where
      abbrev handle_tree : Tree
      handle_tree = Tree.node handle (Trees.child itself_named Trees.no_children)

      handle_cases : (a b : Bool) (x : Bool) (o : Option ℕ) → a ≡ b → x ≡ option_map_or (is_name t known p resource) o false
          → (a && x) ≡ option_map_or (is_name t known p resource) (cond b o None) false
      handle_cases true true x o e h = h
      handle_cases false false x o e h = refl
      handle_cases _ _ x o e h = absurd cc

      handle_same : (k : ℕ) → IsPart t k → IsSeenFrom t p k → same_tree (tree_at t k) handle_tree ≡ is_handle t known p sort resource k
      handle_same k part seen = by_shape t table (λ x. same_tree x handle_tree) (λ o. option_map_or (is_name t known p resource) (option_and_then (held_in sort) o) false) k part (λ q e. refl)
          (λ n q name is there e. sym (ap (λ b. option_map_or (is_name t known p resource) (cond b None None) false) not_name))
          (λ n form ks is there e ranges. handle_cases (same_form form handle) ((form_code form).sort == sort) (same_trees (children (map (tree_at t) ks)) (Trees.child itself_named Trees.no_children))
          (only_of ks) (by_sort form) (only_same ks ranges (λ m c q h. seen q (inside k n m q form ks is there c h))))

    own_same : (k : ℕ) → IsPart t k → IsSeenFrom t p k → same_tree (tree_at t k) (own_of_name here resource) ≡ is_handle t known p own_sort resource k
    own_same k part seen = handle_same Form.own_of own_sort own_by_sort refl k part seen

    begins_same : (ps : List (Text × ℕ)) → AllByRecursion (λ (x : Text × ℕ). Known x.1) ps
        → rules.begins_with_self (borrow_name here resource) (map (λ x. (x.0, tree_at t x.1)) ps) ≡ begins_with_self t known p resource ps
    begins_same [] h = refl
    begins_same (x ∷ ps) h = ap (λ b. text_eq x.0 (codes "self") && b) (handle_same Form.borrow_of borrow_sort borrow_by_sort refl x.1 h.0.part h.0.seen)

    -- ---- constructors

    ok_same : (form : Form) (ks : List ℕ) (whole : Bool) → ((m : ℕ) → Contains ks m → same_tree (tree_at t m) (own_of_name here resource) ≡ is_handle t known p own_sort resource m)
        → same_tree (Tree.node form (children (map (tree_at t) ks))) (own_of_name here resource) ≡ whole
        → rules.may_construct (own_of_name here resource) (Some (Tree.node form (children (map (tree_at t) ks))))
        ≡ option_map_or (is_handle t known p own_sort resource) (ok_in (node_shape form ks)) whole
    ok_same (Form.result_of true true) (m ∷ ks) whole each e = each m (get-contains (m ∷ ks) 0 m refl)
    ok_same (Form.result_of true false) (m ∷ ks) whole each e = each m (get-contains (m ∷ ks) 0 m refl)
    ok_same (Form.result_of false false) ks whole each e = e
    ok_same _ ks whole each e = e

    constructs_same : (r : Option ℕ) → AllOf Known r → rules.may_construct (own_of_name here resource) (option_map (tree_at t) r) ≡ constructs t known p resource r
    constructs_same None h = refl
    constructs_same (Some k) h = by_shape t table (λ x. rules.may_construct (own_of_name here resource) (Some x))
        (λ o. option_map_or (is_handle t known p own_sort resource) (option_and_then ok_in o) (is_handle t known p own_sort resource k)) k h.part (λ q e. itself_same e)
        (λ n q name is there e. itself_same e) (λ n form ks is there e ranges. ok_same form ks (is_handle t known p own_sort resource k)
        (λ m c. own_same m (all_at (IsPart t) ks ranges m c) (λ q x. h.seen q (inside k n m q form ks is there c x))) (itself_same e))
      where
        itself_same : {x : Tree} → tree_at t k ≡ x → same_tree x (own_of_name here resource) ≡ is_handle t known p own_sort resource k
        itself_same e = sym (ap (λ x. same_tree x (own_of_name here resource)) e) ∙ own_same k h.part h.seen

    function_of_same : (name : Text) (f : FunctionShape) → PartsOf Known f → rules.is_function_of here name (signature_over (tree_at t) f) resource ≡ is_function_of t known p name f resource
    function_of_same name f h = search (std_rules, constructs_same, begins_same)

  pub function_same : (resources : List Text) (name : Text) (f : FunctionShape) → PartsOf Known f
      → rules.is_function here resources name (signature_over (tree_at t) f) ≡ is_function t known p resources name f
  function_same resources name f h = λ i. signature_same f h i && (is_label name || list_any (λ r. function_of_same r name f h i) resources)

  -- ---- interfaces

  pub interface_same : (v : NumberedView) → ViewPasses t Known v → rules.is_interface here (view_of t v) ≡ is_interface t known p v
  interface_same v h = search (std_rules, map_of_map, all_same, declared_same, resources_same, function_same)

pub each_rule_in_numbers : EachRuleInNumbers
each_rule_in_numbers t table known p = search (std_rules, declared_same, signature_same, function_same, interface_same)
