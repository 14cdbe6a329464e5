-- The opened tree of a type number is made of those of the numbers in it.
use Rattle.std.proofs.Common.{rules as std_rules, ◌≡◌, refl, sym, ap, ◌∙◌, ℕ, Bool, true, false, nat_lt, List, [], ◌∷◌, ◌++◌, take, map, filter_map, option_map, option_to_list, Some, None, Option, slice_get, unwrap_or}
use Rattle.std.specs.List.{list_all}
use Rattle.wit_model.specs.declared.model.{Resolve.Resolve, TypeDef.TypeDef, TypeDefKind.TypeDefKind, «Type».«Type» as ValueType}
use Rattle.wit_model.specs.{Text.Text, Text.text_of, Lookup.type_at, Parts.kind_numbers, Types.tree_at, Types.tree_of, Types.no_tree}
use Rattle.wit_model.specs.Tree.{Tree, Trees, Form, node, child, children, given_trees, is_given, record_tree, variant_tree, record_of, variant_of, result_of, future_of, stream_of}
use Rattle.wit_model.proofs.{Tables.grow_at, TreeTable.declared_same}
use Rattle.compat_meaning.specs.Opened.{opened_kind, opened_definition, opened_of, places_of, form_of, is_there}
use Rattle.compat_meaning.specs.Table.{IsLayered, is_alias}
use Rattle.base_lemmas.proofs.Lists.{map_of_map as map_twice}
use Rattle.wit_model.specs.declared.model.TypeDefKind.TheVariants as kind
use Rattle.wit_model.specs.declared.model.Handle.TheVariants as handle

opened_same : (n : ℕ) (trees : List Tree) (leaf : Tree) (k : TypeDefKind) → list_all (λ m. nat_lt m n) (kind_numbers k) ≡ true → opened_kind leaf (take n trees) k ≡ opened_kind leaf trees k
opened_same n trees leaf k h = search (std_rules, declared_same n trees k h)

pub opened_at : (r : Resolve) → IsLayered r → (n : ℕ) (def : TypeDef) → type_at r n ≡ Some def → slice_get (opened_of r) n ≡ Some (opened_definition r (opened_of r) def)
unfolding opened_of
opened_at r l n def is = search (std_rules, grow_at, opened_same)

pub opened_tree_at : (r : Resolve) → IsLayered r → (n : ℕ) (def : TypeDef) → type_at r n ≡ Some def → tree_at (opened_of r) n ≡ opened_definition r (opened_of r) def
opened_tree_at r l n def is = ap (λ o. unwrap_or o no_tree) (opened_at r l n def is)

-- ---- the tree of a kind by its form and its places

abbrev pub built : Tree → Option Form → Trees → Tree
built leaf None ts = leaf
built leaf (Some f) ts = node f ts

module _ (trees : List Tree) where
  given_one : (o : Option ValueType) → given_trees (option_map (tree_of trees) o ∷ []) ≡ children (map (tree_of trees) (option_to_list o))
  given_one x = search std_rules

  there : (o : Option ValueType) → is_given (option_map (tree_of trees) o) ≡ is_there o
  there x = search std_rules

  given_two : (o p : Option ValueType) → given_trees (option_map (tree_of trees) o ∷ option_map (tree_of trees) p ∷ []) ≡ children (map (tree_of trees) (option_to_list o ++ option_to_list p))
  given_two x y = search std_rules

  module _ {C : Type 0} (name : C → Text) where
    record_built : (ty_of : C → ValueType) (cs : List C)
        → record_tree (map (λ c. (name c, tree_of trees (ty_of c))) cs) ≡ node (record_of (map name cs)) (children (map (tree_of trees) (map ty_of cs)))
    record_built ty_of cs =
        let field : C → Text × Tree = λ c. (name c, tree_of trees (ty_of c)) in
        let first : Text × Tree → Text = λ f. f.0 in
        let second : Text × Tree → Tree = λ f. f.1 in
        let trees_agree : map second (map field cs) ≡ map (tree_of trees) (map ty_of cs) = map_twice second field cs ∙ sym (map_twice (tree_of trees) ty_of cs) in
        λ i. node (record_of (map_twice first field cs i)) (children (trees_agree i))

    module _ (ty_of : C → Option ValueType) where
      abbrev opt : C → Option Tree
      opt c = option_map (tree_of trees) (ty_of c)

      one_more : (c : C) (cs : List C) (o : Option ValueType) → ty_of c ≡ o → given_trees (map opt cs) ≡ children (map (tree_of trees) (filter_map ty_of cs))
          → given_trees (map opt (c ∷ cs)) ≡ children (map (tree_of trees) (filter_map ty_of (c ∷ cs)))
      one_more c cs None e h = rw e h
      one_more c cs (Some t) e h = rw e (ap (child (tree_of trees t)) h)

      given_all : (cs : List C) → given_trees (map opt cs) ≡ children (map (tree_of trees) (filter_map ty_of cs))
      given_all [] = refl
      given_all (c ∷ cs) = one_more c cs (ty_of c) refl (given_all cs)

      abbrev with_given : C → Text × Bool
      with_given c = (name c, is_given (opt c))

      abbrev with_there : C → Text × Bool
      with_there c = (name c, is_there (ty_of c))

      there_all : (cs : List C) → map with_given cs ≡ map with_there cs
      there_all [] = refl
      there_all (c ∷ cs) = let p : with_given c ≡ with_there c = λ i. (name c, there (ty_of c) i) in λ i. p i ∷ there_all cs i

      variant_built : (cs : List C) → variant_tree (map (λ c. (name c, opt c)) cs) ≡ node (variant_of (map with_there cs)) (children (map (tree_of trees) (filter_map ty_of cs)))
      variant_built cs =
          let case_ : C → Text × Option Tree = λ c. (name c, opt c) in
          let first : Text × Option Tree → Text × Bool = λ c. (c.0, is_given c.1) in
          let second : Text × Option Tree → Option Tree = λ c. c.1 in
          let heads_agree : map first (map case_ cs) ≡ map with_there cs = map_twice first case_ cs ∙ there_all cs in
          let trees_agree : given_trees (map second (map case_ cs)) ≡ children (map (tree_of trees) (filter_map ty_of cs)) = ap given_trees (map_twice second case_ cs) ∙ given_all cs in
          λ i. node (variant_of (heads_agree i)) (trees_agree i)

  pub opened_built : (leaf : Tree) (k : TypeDefKind) → is_alias k ≡ false → opened_kind leaf trees k ≡ built leaf (form_of k) (children (map (tree_of trees) (places_of k)))
  opened_built leaf (kind.Record x) h = record_built (λ f. text_of f.name) (λ f. f.ty) x.fields.items
  opened_built leaf (kind.Variant x) h = variant_built (λ c. text_of c.name) (λ c. c.ty) x.cases.items
  opened_built leaf (kind.Result x) h = λ i. node (result_of (there x.ok i) (there x.err i)) (given_two x.ok x.err i)
  opened_built leaf (kind.Future t) h = λ i. node (future_of (there t i)) (given_one t i)
  opened_built leaf (kind.Stream t) h = λ i. node (stream_of (there t i)) (given_one t i)
  opened_built leaf (kind.Handle (handle.Own id)) h = refl
  opened_built leaf (kind.Type_ t) h = absurd (let z : ⊥ = cc in z)
  opened_built leaf _ h = refl
