-- The unnamed levels of a type may be computed along the list of types, where each refers to smaller numbers alone.
use Rattle.std.proofs.Common.{rules as std_rules, ◌≡◌, refl, sym, ap, subst, ◌∙◌, ℕ, ◌+◌, ◌<◌, ◌≤◌, min, max, true, nat_lt, nat_le, T, ltb→lt, List, [], ◌∷◌, ◌++◌, length, map, filter_map, option_map, option_to_list, Some, None, Option, unwrap_or, append-nil, arith}
use Rattle.std.proofs.lemmas.Option.{slice_get_past}
use Rattle.std.specs.{List.list_all, List.cons_option, Option.option_map_or}
use Rattle.wit_model.specs.declared.model.{Resolve.Resolve, TypeDef.TypeDef, TypeDefKind.TypeDefKind, Case.Case, Function.Function, «Type».«Type» as ValueType}
use Rattle.wit_model.specs.declared.model.{Handle.Handle, Field.Field}
use Rattle.wit_model.specs.{Text.Text, Text.text_of, Parts.kind_numbers, Parts.function_types, Rules.is_shallow, Valid.Keeps}
use Rattle.wit_model.specs.{Lookup.type_at, Lookup.place_of, Checks.references, Checks.highest, Checks.levels_above, Checks.capped_levels, Checks.all_values}
use Rattle.wit_model.specs.Tree.{Tree, levels, deepest, children, given_trees, named}
use Rattle.wit_model.specs.Types.{number_of, no_tree, tree_at, tree_of, declared_by, tree_of_declaration, tree_of_definition, trees_of, number_tree}
use Rattle.wit_model.proofs.{Tables.grow_keeps, TreeTable.trees_at, Checks.below_at, Functions.types_test, Functions.functions_test}
use Rattle.base_lemmas.proofs.{Bools.left_of as first_true, Bools.right_of as second_true}
use Rattle.wit_model.specs.declared.model.TypeDefKind.TheVariants as kind

-- ---- the levels of what a kind declares

module _ (trees : List Tree) where
  abbrev of_number : ℕ → ℕ
  of_number m = levels (tree_at trees m)

  -- a type at the front of a list
  type_head : (t : ValueType) (x : ℕ) (ns : List ℕ) → x ≡ highest of_number ns → max (levels (tree_of trees t)) x ≡ highest of_number (cons_option (number_of t) ns)
  type_head y x ns e = search std_rules

  of_types : (ts : List ValueType) → deepest (children (map (tree_of trees) ts)) ≡ highest of_number (filter_map number_of ts)
  of_types [] = refl
  of_types (t ∷ ts) = type_head t _ (filter_map number_of ts) (of_types ts)

  of_fields : (fs : List Field)
      → deepest (children (map (λ (f : Text × Tree). f.1) (map (λ f. (text_of f.name, tree_of trees f.ty)) fs))) ≡ highest of_number (filter_map number_of (map (λ f. f.ty) fs))
  of_fields [] = refl
  of_fields (f ∷ fs) = type_head f.ty _ (filter_map number_of (map (λ f. f.ty) fs)) (of_fields fs)

  -- a type that may be left out, at the front of a list
  option_head : (o : Option ValueType) (os : List (Option Tree)) (ts : List ValueType) → deepest (given_trees os) ≡ highest of_number (filter_map number_of ts)
      → deepest (given_trees (option_map (tree_of trees) o ∷ os)) ≡ highest of_number (filter_map number_of (cons_option o ts))
  option_head x os ts e = search std_rules

  of_cases : (cs : List Case)
      → deepest (given_trees (map (λ (c : Text × Option Tree). c.1) (map (λ c. (text_of c.name, option_map (tree_of trees) c.ty)) cs)))
      ≡ highest of_number (filter_map number_of (filter_map (λ c. c.ty) cs))
  of_cases [] = refl
  of_cases (c ∷ cs) = option_head c.ty _ (filter_map (λ c. c.ty) cs) (of_cases cs)

  one_option : (o : Option ValueType) → deepest (given_trees (option_map (tree_of trees) o ∷ [])) ≡ highest of_number (filter_map number_of (option_to_list o))
  one_option x = search std_rules

  two_options : (a b : Option ValueType)
      → deepest (given_trees (option_map (tree_of trees) a ∷ option_map (tree_of trees) b ∷ [])) ≡ highest of_number (filter_map number_of (option_to_list a ++ option_to_list b))
  two_options x b = search std_rules

  -- without a handle and an alias
  plainly : (x : ℕ) (ns : List ℕ) → x ≡ highest of_number ns → x + 1 ≡ highest of_number (ns ++ []) + 1
  plainly x ns e = ap (λ n. n + 1) (e ∙ ap (highest of_number) (sym (append-nil ns)))

  aliased : (t : ValueType) → levels (tree_of trees t) ≡ highest of_number (option_to_list (number_of t))
  aliased t = search std_rules

  handled_levels : (h : Handle) → levels (tree_of_declaration (declared_by trees (kind.Handle h))) ≡ highest of_number (kind_numbers (kind.Handle h)) + 1
  handled_levels x = search std_rules

  -- what a kind declares has the levels that its numbers give
  pub declared_levels : (k : TypeDefKind) → levels (tree_of_declaration (declared_by trees k)) ≡ levels_above (highest of_number (kind_numbers k)) k
  declared_levels y = search (std_rules, plainly, of_fields, of_cases, of_types, two_options, one_option, handled_levels, aliased)

-- ---- the cap

cap_max : (a b : ℕ) → max (min 101 a) (min 101 b) ≡ min 101 (max a b)
cap_max a b = omega arith

cap_highest : (f : ℕ → ℕ) (ns : List ℕ) → highest (λ m. min 101 (f m)) ns ≡ min 101 (highest f ns)
cap_highest f [] = refl
cap_highest f (n ∷ ns) = ap (max (min 101 (f n))) (cap_highest f ns) ∙ cap_max (f n) (highest f ns)

cap_kind : (h : ℕ) (k : TypeDefKind) → min 101 (levels_above (min 101 h) k) ≡ min 101 (levels_above h k)
cap_kind h x = search std_rules

pub highest_same : (f g : ℕ → ℕ) (n : ℕ) (ns : List ℕ) → ((m : ℕ) → m < n → f m ≡ g m) → list_all (λ m. nat_lt m n) ns ≡ true → highest f ns ≡ highest g ns
highest_same f g n [] same h = refl
highest_same f g n (m ∷ ns) same h = λ i. max (same m (ltb→lt m n (subst T (sym (first_true _ _ h)) tt)) i) (highest_same f g n ns same (second_true _ _ h) i)

-- the levels of a type hang on smaller numbers alone
pub levels_same : (f g : ℕ → ℕ) (n : ℕ) (def : TypeDef) → ((m : ℕ) → m < n → f m ≡ g m) → list_all (λ m. nat_lt m n) (kind_numbers def.kind) ≡ true → capped_levels f def ≡ capped_levels g def
levels_same f g n def same h = ap (λ x. option_map_or (λ name. 0) def.name (min 101 (levels_above x def.kind))) (highest_same f g n (kind_numbers def.kind) same h)

module _ (r : Resolve) where
  abbrev capped : ℕ → ℕ
  capped n = min 101 (levels (number_tree r n))

  defined : (def : TypeDef) (o : Option _)
      → min 101 (levels (option_map_or (λ name. named (place_of r def.owner) (text_of name)) o (tree_of_declaration (declared_by (trees_of r) def.kind)))) ≡ option_map_or (λ name. 0) o
      (min 101 (levels_above (highest capped (kind_numbers def.kind)) def.kind))
  defined def (Some name) = refl
  defined def None = ap (min 101) (declared_levels (trees_of r) def.kind)
      ∙ (sym (cap_kind (highest (λ m. levels (number_tree r m)) (kind_numbers def.kind)) def.kind)
      ∙ ap (λ x. min 101 (levels_above x def.kind)) (sym (cap_highest (λ m. levels (number_tree r m)) (kind_numbers def.kind))))

  -- the levels of a number are those of its definition
  pub levels_step : Keeps references r → (n : ℕ) (def : TypeDef) → type_at r n ≡ Some def → capped n ≡ capped_levels capped def
  levels_step below n def is = ap (λ o. min 101 (levels (unwrap_or o no_tree))) (trees_at r n def is (below_at r below n def is)) ∙ defined def def.name

  -- a number past the list has none
  pub no_levels : (n : ℕ) → length r.types.items ≤ n → capped n ≡ 0
  unfolding trees_of
  no_levels n h =
      let made = grow_keeps (tree_of_definition r) [] r.types.items in
      let long : length (trees_of r) ≤ n = omega (arith, h, ap length made.1, made.2) in
      ap (λ o. min 101 (levels (unwrap_or o no_tree))) (slice_get_past (trees_of r) n long)

-- ---- the tests, by any levels that agree

module _ (r : Resolve) (f : ℕ → ℕ) (same : (n : ℕ) → f n ≡ min 101 (levels (number_tree r n))) where
  shallow : (t : ValueType) → list_all (λ n. nat_le (f n) 100) (option_to_list (number_of t)) ≡ is_shallow r t
  shallow y = search std_rules

  pub shallow_types : (ts : List ValueType) (ns : List ℕ) → ns ≡ filter_map number_of ts → list_all (λ n. nat_le (f n) 100) ns ≡ list_all (is_shallow r) ts
  shallow_types ts ns e = ap (list_all (λ n. nat_le (f n) 100)) e ∙ types_test (λ n. nat_le (f n) 100) (is_shallow r) shallow ts

  pub shallow_functions : (fs : List Function) (ns : List ℕ) → ns ≡ all_values fs → list_all (λ n. nat_le (f n) 100) ns ≡ list_all (λ x. list_all (is_shallow r) (function_types x)) fs
  shallow_functions fs ns e = ap (list_all (λ n. nat_le (f n) 100)) e ∙ functions_test (λ n. nat_le (f n) 100) (is_shallow r) shallow fs
