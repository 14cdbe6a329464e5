-- The forms in a part of the tables, and the trees that they stand for.
use Rattle.std.proofs.Common.{rules as std_rules, ◌≡◌, refl, sym, ap, subst, ◌∙◌, ℕ, ◌+◌, arith, Bool, true, false, List, [], ◌∷◌, map, Option, Some, None, option_and_then, option_map, slice_get, unwrap_or, IfSome}
use Rattle.std.proofs.lemmas.Option.{slice_get_within, same_Some as same-some}
use Rattle.std.specs.List.{AllByRecursion, Contains}
use Rattle.wit_model.specs.{Text.Text, Tree.Form, Tree.Place, Tree.Tree, Tree.Trees, Tree.children, Types.no_tree}
use Rattle.wit_model.proofs.Elements.{none-in}
use Rattle.plan_meaning.proofs.ShapeLaws.{PartView, is_name, is_node, is_primitive, node_tree, part_behind, tree_at_number, viewed}
use Rattle.plan_meaning.proofs.NumberedRules.{shape_there}
use Rattle.plan_meaning.specs.{NumberedRules.name_at, NumberedRules.name_in, Shapes.Shape, Shapes.named_shape, Shapes.node_shape, Shapes.shape_trees}
use Rattle.plan_meaning.specs.NumberedViews.{AllOf, AreTables, FunctionShape, HasNameIn, IsPart, PartsOf, Tables, place_at, tree_at}
use Rattle.read_shown.specs.Trees.{HandleStands, PartsStand, SignatureStands, TreeStands, is_handle}
use Rattle.plan_type_laws.specs.ShownForms.{HasNumberIn, itself, inside}
use Rattle.plan_meaning.specs.NumberedViews as numbered

-- an item of a list is the first, or stands behind it
among : {A : Type 0} {R : Type 0} (x y : A) (xs : List A) → Contains (x ∷ xs) y → (x ≡ y → R) → (Contains xs y → R) → R
among x y xs z here later = search std_rules

-- the name of a part
pub name_there : (t : Tables) (k n q : ℕ) (name : Text) → k ≡ 14 + n → slice_get t.shapes n ≡ Some (named_shape q name) → name_at t k ≡ Some (q, name)
name_there t k n q name e at = ap (option_and_then name_in) (shape_there t k n (named_shape q name) e at)

module _ (t : Tables) (tables : AreTables t) where
  -- the tree of a form
  pub tree_of_form : (n : ℕ) (form : Form) (parts : List ℕ) → slice_get t.shapes n ≡ Some (node_shape form parts) → tree_at t (14 + n) ≡ Tree.node form (children (map (tree_at t) parts))
  tree_of_form n form parts there =
      let trees = shape_trees (place_at t) t.shapes in
      part_behind trees n ∙ (ap (λ o. unwrap_or o no_tree) (tree_at_number (place_at t) t.shapes tables.shapes n (node_shape form parts) there) ∙ node_tree (place_at t) trees form parts)

  -- what a part is
  pub view_part : (k : ℕ) → IsPart t k → PartView (place_at t) t.shapes tables.shapes k (tree_at t k)
  view_part k range = viewed (place_at t) t.shapes tables.shapes k range

  -- the parts of a form are parts of the tables
  pub form_range : (n : ℕ) (form : Form) (parts : List ℕ) → slice_get t.shapes n ≡ Some (node_shape form parts) → AllByRecursion (IsPart t) parts
  form_range n form parts there = by (view_part (14 + n) (let low = slice_get_within t.shapes n (node_shape form parts) there in omega (arith, low)))
    where
      by : PartView (place_at t) t.shapes tables.shapes (14 + n) (tree_at t (14 + n)) → AllByRecursion (IsPart t) parts
      by (is_primitive p small stands number) = absurd (omega (arith, small))
      by (is_name m q x is at stands) = let wrong : Tree.named (place_at t q) x ≡ Tree.node form (children (map (tree_at t) parts)) = sym stands ∙ tree_of_form n form parts there in absurd cc
      by (is_node m f ks is at stands range) = subst (AllByRecursion (IsPart t)) (ap (λ (s : Shape). s.parts) (same-some _ _
          (sym at ∙ (ap (slice_get t.shapes) (sym (omega (arith, is))) ∙ there)))) range

  -- a name holds no form
  pub name_alone : {A : Type 0} (k n : ℕ) (place : Place) (name : Text) (form : Form) (parts : List ℕ) → tree_at t k ≡ Tree.named place name → HasNumberIn t k n
      → slice_get t.shapes n ≡ Some (node_shape form parts) → A
  name_alone k n place name form parts is x there = search (std_rules, tree_of_form)

  -- the names in an inner form are names in the part
  pub inner_names : (k n q : ℕ) → HasNumberIn t k n → HasNameIn t.shapes (14 + n) q → HasNameIn t.shapes k q
  inner_names k n q (itself i m e) has = subst (λ j. HasNameIn t.shapes j q) (sym e) has
  inner_names k n q (inside i m j l f ks e at c within) has = numbered.inside i m j q f ks e at c (inner_names j l q within has)

  module _ (Met : Place → Text → Bool → Type 0) where
    pub child_stands : (parts : List ℕ) (m : ℕ) → PartsStand Met false (children (map (tree_at t) parts)) → Contains parts m → TreeStands Met (tree_at t m)
    child_stands [] m stand c = none-in m c
    child_stands (k ∷ parts) m stand c = among k m parts c (λ e. subst (λ i. TreeStands Met (tree_at t i)) e stand.0) (child_stands parts m stand.1)

    -- a part of a handle
    pub record IsHeld (parts : List ℕ) : Type 0 where
      pub part : ℕ
      pub alone : parts ≡ part ∷ []
      pub place : Place
      pub name : Text
      pub is : tree_at t part ≡ Tree.named place name
      pub met : Met place name true

    pub handle_held : (parts : List ℕ) → HandleStands Met (children (map (tree_at t) parts)) → IsHeld parts
    handle_held [] h = absurd h
    handle_held (k ∷ []) h = by (tree_at t k) refl h
      where
        by : (x : Tree) → tree_at t k ≡ x → HandleStands Met (Trees.child x Trees.no_children) → IsHeld (k ∷ [])
        by (Tree.named place name) e h = record { part = k; alone = refl; place = place; name = name; is = e; met = h }
        by _ e h = absurd h
    handle_held (k ∷ j ∷ parts) h = by (tree_at t k) h
      where
        by : (x : Tree) → HandleStands Met (Trees.child x (Trees.child (tree_at t j) (children (map (tree_at t) parts)))) → IsHeld (k ∷ j ∷ parts)
        by (Tree.primitive p) h = absurd h
        by _ h = absurd h

    -- an inner form of a well-formed tree is well-formed
    pub inner_stands : (k n : ℕ) (form : Form) (parts : List ℕ) → TreeStands Met (tree_at t k) → HasNumberIn t k n → slice_get t.shapes n ≡ Some (node_shape form parts)
        → TreeStands Met (Tree.node form (children (map (tree_at t) parts)))
    inner_stands k n form parts stands (itself i m e) there = subst (TreeStands Met) (ap (tree_at t) e ∙ tree_of_form m form parts there) stands
    inner_stands k n form parts stands (inside i m j l f ks e at c within) there =
        by (is_handle f) refl (subst (TreeStands Met) (ap (tree_at t) e ∙ tree_of_form m f ks at) stands).1 (λ stand. inner_stands j l form parts stand within there)
      where
        by : (b : Bool) → is_handle f ≡ b → PartsStand Met b (children (map (tree_at t) ks)) → (TreeStands Met (tree_at t j) → TreeStands Met (Tree.node form (children (map (tree_at t) parts))))
            → TreeStands Met (Tree.node form (children (map (tree_at t) parts)))
        by false h stand later = later (child_stands ks j stand c)
        by true h stand later =
            let held = handle_held ks stand in
            name_alone j l held.place held.name form parts (ap (tree_at t) (sym (among held.part j [] (subst (λ xs. Contains xs j) held.alone c) (λ e. e) (none-in j))) ∙ held.is) within there

    -- what holds of each well-formed part that a function has
    pub signature_parts_hold : (R Q : ℕ → Type 0) → ((k : ℕ) → R k → TreeStands Met (tree_at t k) → Q k) → (f : FunctionShape) → PartsOf R f
        → SignatureStands Met (numbered.signature_over (tree_at t) f) → PartsOf Q f
    signature_parts_hold R Q one f all stands = (params f.params all.0 stands.0, result f.result all.1 stands.1)
      where
        params : (xs : List (Text × ℕ)) → AllByRecursion (λ (p : Text × ℕ). R p.1) xs → AllByRecursion (λ (p : Text × Tree). TreeStands Met p.1) (map (λ (p : Text × ℕ). (p.0, tree_at t p.1)) xs)
            → AllByRecursion (λ (p : Text × ℕ). Q p.1) xs
        params [] rs stand = tt
        params (x ∷ xs) rs stand = (one x.1 rs.0 stand.0, params xs rs.1 stand.1)

        result : (r : Option ℕ) → AllOf R r → IfSome (option_map (tree_at t) r) (TreeStands Met) → AllOf Q r
        result None given stand = tt
        result (Some k) given stand = one k given stand
