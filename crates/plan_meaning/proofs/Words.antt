-- The words of a plan, on the plan that a `Resolve` is built from, are those of the `Resolve`.
use Rattle.std.proofs.Common.{rules as std_rules, ◌≡◌, refl, sym, ap, ◌∙◌, ℕ, ◌+◌, false, List, [], ◌∷◌, ◌++◌, map, filter_map, flat_map, option_map, option_and_then, option_to_list, Option, Some, None, is_some, append-nil, String, rules}
use Rattle.std.proofs.lemmas.Option.{slice_get-map as get_of_map}
use Rattle.std.specs.declared.alloc.Global.{Global}
use Rattle.std.specs.{List.cons_option, Option.option_map_or}
use Rattle.wit_model.specs.declared.model.{Resolve.Resolve, TypeDef.TypeDef, Function.Function}
use Rattle.wit_model.specs.declared.model.{Interface.Interface, TypeDefKind.TypeDefKind, TypeOwner.TypeOwner, «Type».«Type» as ValueType}
use Rattle.wit_model.specs.{Text.Text, Text.text_of, Text.optional_text, Parts.met_by, Parts.met_of, Parts.met_inside, Parts.same_owner, Parts.function_types}
use Rattle.wit_model.specs.{Uses.alias_target, Uses.owner_interface, Uses.used_interface, Uses.direct_deps}
use Rattle.wit_model.specs.Tree.{Tree, Place, TypeDeclaration, children, child, given_trees, named, is_given}
use Rattle.wit_model.specs.Types.{number_of, tree_of, declared_by, tree_of_declaration, tree_of_definition, trees_of}
use Rattle.wit_model.specs.Lookup.{path_of_interface, interface_path, place_of, resource_of}
use Rattle.plan_meaning.specs.{Shapes.part_tree, PlanRules.direct_uses}
use Rattle.plan_meaning.specs.Plan.{Plan, path_of_planned, path_at, place_in, part_number, kind_numbers, function_parts, function_numbers, met_at, met_in, used_by_numbers, has_owner, declared_as, tree_of_planned, trees_in, alias_number, interface_used_by, interfaces_used_by, type_in}
use Rattle.plan_meaning.specs.Built.{part_of, given_parts, planned_kind, planned_type, planned_function, planned_interface, planned_world, planned_package}
use Rattle.plan_meaning.proofs.ShapeLaws.{part_behind}
use Rattle.plan_meaning.proofs.Lists.{grow_of_map, same_grow, numbered_of_map, option_of_map, same_then, then_there, or_there}
use Rattle.base_lemmas.proofs.Lists.{filter_of_map, map_of_map, same_map}
use Rattle.wit_model.specs.Types as types
use Rattle.wit_model.specs.Parts as parts
use Rattle.wit_model.specs.Uses as uses

-- the plan that a `Resolve` is built from
abbrev pub plan_of : Resolve → ℕ → Plan
plan_of r m = record {
  packages = map planned_package r.packages.items;
  interfaces = map planned_interface r.interfaces.items;
  worlds = map planned_world r.worlds.items;
  types = map planned_type r.types.items;
  main = m;
}

-- ---- parts

pub behind : (n : ℕ) → part_number (14 + n) ≡ Some n
behind n = search rules

pub number_part : (t : ValueType) → part_number (part_of t) ≡ number_of t
number_part x = search std_rules

pub given_all : {A : Type 0} (h : A → Option ValueType) (xs : List A) → given_parts (map h xs) ≡ map part_of (filter_map h xs)
given_all h [] = refl
given_all h (x ∷ xs) = search (std_rules, given_all h xs)

pub numbers_parts : (ts : List ValueType) → filter_map part_number (map part_of ts) ≡ filter_map number_of ts
numbers_parts ts = filter_of_map part_number part_of ts ∙ ap (λ h. filter_map h ts) (λ i t. number_part t i)

plain : (ts : List ValueType) → filter_map part_number (map part_of ts) ≡ filter_map number_of ts ++ []
plain ts = numbers_parts ts ∙ sym (append-nil (filter_map number_of ts))

one_given : (o : Option ℕ) → cons_option o [] ≡ option_to_list o
one_given x = search std_rules

result_parts : (ok err : Option ValueType) → given_parts (ok ∷ err ∷ []) ≡ map part_of (option_to_list ok ++ option_to_list err)
result_parts x y = search std_rules

option_parts : (o : Option ValueType) → given_parts (o ∷ []) ≡ map part_of (option_to_list o)
option_parts x = search std_rules

-- the parts of a kind are those of its members, and of a handle its resource
pub kind_numbers_are : (k : TypeDefKind) → kind_numbers (planned_kind k) ≡ parts.kind_numbers k
kind_numbers_are x = search (std_rules, map_of_map, plain, behind, given_all, result_parts, option_parts, number_part, one_given)

pub alias_is : (k : TypeDefKind) → alias_number (planned_kind k) ≡ alias_target k
alias_is x = search std_rules

-- ---- functions

params_result : (ps : List ValueType) (o : Option ValueType) → map part_of ps ++ option_to_list (option_map part_of o) ≡ map part_of (ps ++ option_to_list o)
params_result [] None = refl
params_result [] (Some t) = refl
params_result (p ∷ ps) o = ap (λ ks. part_of p ∷ ks) (params_result ps o)

pub function_parts_are : (f : Function) → function_parts (planned_function f) ≡ map part_of (function_types f)
function_parts_are f = ap (λ ks. ks ++ option_to_list (option_map part_of f.result)) (map_of_map (λ (x : Text × ℕ). x.1) (λ x. (text_of x.name, part_of x.ty)) f.params.items ∙ sym
    (map_of_map part_of (λ x. x.ty) f.params.items))
    ∙ params_result (map (λ x. x.ty) f.params.items) f.result

pub value_numbers_are : (f : Function) → filter_map part_number (function_parts (planned_function f)) ≡ filter_map number_of (function_types f)
value_numbers_are f = ap (filter_map part_number) (function_parts_are f) ∙ numbers_parts (function_types f)

pub function_numbers_are : (f : Function) → function_numbers (planned_function f) ≡ parts.function_numbers f
function_numbers_are f = ap (λ ns. ns ++ option_to_list (resource_of f.kind)) (value_numbers_are f)

-- ---- trees of parts

pub part_tree_is : (T : List Tree) (t : ValueType) → part_tree T (part_of t) ≡ tree_of T t
unfolding part_tree
part_tree_is x y = search std_rules

module _ (T : List Tree) where
  trees_same : (ts : List ValueType) → map (part_tree T) (map part_of ts) ≡ map (tree_of T) ts
  trees_same ts = map_of_map (part_tree T) part_of ts ∙ same_map (λ t. part_tree T (part_of t)) (tree_of T) (part_tree_is T) ts

  given_same : (os : List (Option ValueType)) → children (map (part_tree T) (given_parts os)) ≡ given_trees (map (option_map (tree_of T)) os)
  given_same [] = refl
  given_same (None ∷ os) = given_same os
  given_same (Some t ∷ os) = λ i. child (part_tree_is T t i) (given_same os i)

  is_given_map : (o : Option ValueType) → is_some o ≡ is_given (option_map (tree_of T) o)
  is_given_map x = search std_rules

  pub declared_is : (k : TypeDefKind) → declared_as T (planned_kind k) ≡ declared_by T k
  declared_is y = search (std_rules, map_of_map, same_map, part_tree_is, part_behind, trees_same, is_given_map, given_same)

-- ---- along the lists

module _ (r : Resolve) (m : ℕ) where
  abbrev pub P : Plan
  P = plan_of r m

  pub path_of_planned_is : (i : Interface) → path_of_planned P (planned_interface i) ≡ path_of_interface r i
  path_of_planned_is i = search (std_rules, get_of_map, option_of_map)

  pub path_is : (n : ℕ) → path_at P n ≡ interface_path r n
  path_is = then_there (path_of_planned P) planned_interface (path_of_interface r) path_of_planned_is r.interfaces.items

  pub place_is : (o : TypeOwner) → place_in P o ≡ place_of r o
  place_is x = search (std_rules, path_is)

  tree_by : (name : Option (String Global)) (a b : Place) (d e : TypeDeclaration) → a ≡ b → d ≡ e →
      option_map_or (λ t. named a t) (optional_text name) (tree_of_declaration d) ≡ option_map_or (λ s. named b (text_of s)) name (tree_of_declaration e)
  tree_by y a b d e p q = search std_rules

  pub tree_of_is : (T : List Tree) (def : TypeDef) → tree_of_planned P T (planned_type def) ≡ tree_of_definition r T def
  tree_of_is T def = tree_by def.name (place_in P def.owner) (place_of r def.owner) (declared_as T (planned_kind def.kind)) (declared_by T def.kind) (place_is def.owner) (declared_is T def.kind)

  pub trees_are : trees_in P ≡ trees_of r
  unfolding trees_in trees_of
  trees_are = grow_of_map (tree_of_planned P) planned_type [] r.types.items ∙ same_grow (λ T def. tree_of_planned P T (planned_type def)) (tree_of_definition r) tree_of_is r.types.items

  met_by_name : (name : Option (String Global)) (n : ℕ) (a b : List ℕ) → a ≡ b → option_map_or (λ t. n ∷ []) (optional_text name) a ≡ option_map_or (λ s. n ∷ []) name b
  met_by_name x n a b e = search std_rules

  met_step_is : (table : List (List ℕ)) (e : ℕ × TypeDef) → met_at table (e.0, planned_type e.1) ≡ parts.met_at table e
  met_step_is table e = met_by_name e.1.name e.0 (flat_map (met_by table) (kind_numbers (planned_kind e.1.kind))) (met_inside table e.1.kind) (ap (flat_map (met_by table)) (kind_numbers_are e.1.kind))

  pub met_are : met_in P ≡ met_of r
  unfolding met_in met_of
  met_are = search (std_rules, numbered_of_map, grow_of_map, same_grow, met_step_is)

  pub has_owner_is : (o : TypeOwner) (n : ℕ) → has_owner P o n ≡ parts.has_owner r o n
  has_owner_is o = or_there (λ t. same_owner t.owner o) planned_type (λ def. same_owner def.owner o) false (λ def. refl) r.types.items

  pub used_are : (ns : List ℕ) → used_by_numbers P ns ≡ flat_map (met_by (met_of r)) ns
  used_are ns = ap (λ table. flat_map (met_by table) ns) met_are

  pub used_by_kind_is : (k : TypeDefKind) → used_by_numbers P (kind_numbers (planned_kind k)) ≡ met_inside (met_of r) k
  used_by_kind_is k = λ i. flat_map (met_by (met_are i)) (kind_numbers_are k i)

  -- ---- uses of interfaces

  used_interface_is : (def : TypeDef) → option_and_then (λ n. option_and_then (λ u. owner_interface u.owner) (type_in P n)) (alias_number (planned_kind def.kind)) ≡ used_interface r def
  used_interface_is def = search (std_rules, alias_is, same_then, then_there)

  pub interface_used_is : (n : ℕ) → interface_used_by P n ≡ uses.interface_used_by r n
  interface_used_is = search (std_rules, then_there, used_interface_is)

  pub interfaces_used_are : (i : Interface) → interfaces_used_by P (planned_interface i) ≡ uses.interfaces_used_by r i
  interfaces_used_are i = search (std_rules, map_of_map, filter_of_map, interface_used_is)

  pub direct_uses_are : (n : ℕ) → direct_uses P n ≡ direct_deps r n
  direct_uses_are n = search (std_rules, or_there, interfaces_used_are)
