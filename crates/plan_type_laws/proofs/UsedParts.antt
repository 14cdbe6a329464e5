-- Types that are used, where what is shown obeys the rules.
use Rattle.plan_meaning.proofs.{NumberedRules.shape_there, NumberedRules.no_shape}
use Rattle.plan_meaning.proofs.ShapeLaws.{PartView, is_name, is_node, is_primitive, viewed}
use Rattle.std.proofs.Common.{rules as std_rules, ◌≡◌, refl, sym, ap, subst, ◌∙◌, ℕ, ◌+◌, ◌-◌, ◌≤◌, arith, Bool, true, false, not, ◌==◌, if◌then◌else◌, List, [], ◌∷◌, map, Option, Some, None, option_and_then, option_map, option_to_list, slice_get}
use Rattle.std.proofs.lemmas.{Bool.le-leb, Bool.leb-true, Option.slice_get_within, Option.same_Some as same-some}
use Rattle.std.specs.{List.AllByRecursion, List.flat_map, List.list_all, Option.option_map_or}
use Rattle.wit_model.specs.{Text.Text, Uses.has, Tree.TypeDeclaration, Tree.Form, Tree.Place, Tree.Tree, Tree.children, Tree.deepest, Tree.levels}
use Rattle.comp_meaning.specs.Rules.{are_parts, most_levels}
use Rattle.plan_meaning.specs.NumberedRules.{is_form, name_at, name_in}
use Rattle.plan_meaning.specs.NumberedViews.{AllOf, AreTables, IsPart, Tables, declaration_of, function_at, place_at, tree_at}
use Rattle.plan_meaning.specs.Shapes.{Shape, first_label, named_shape, node_shape, part_tree, shape_trees}
use Rattle.plan_types.specs.{Showings.NumberedShowing, Used.declared_parts, Used.form_parts, Used.function_parts, Used.showing_parts}
use Rattle.plan_type_laws.proofs.UsedWalk.{in_both, in_flat, one_there, used_fine}
use Rattle.plan_type_laws.specs.UsedParts.{IsFinePart, ShowingObeys, SignatureObeys, UsedPartsAreFine}
use Rattle.base_lemmas.proofs.Bools.{left_of as first_true, right_of as second_true}
use Rattle.comp_meaning.specs.Rules as rules

-- ---- trees

module _ (t : Tables) (tables : AreTables t) where
  -- a part among the parts of a form that stand in a place, and aren't too deep
  among_parts : (place : Place) (ks : List ℕ) → are_parts place (children (map (tree_at t) ks)) ≡ true → deepest (children (map (tree_at t) ks)) ≤ most_levels → (k : ℕ) → has ks k ≡ true
      → IsFinePart t k
  among_parts place [] h deep k there = let wrong : false ≡ true = there in absurd cc
  among_parts place (j ∷ ks) h deep k there = in_both (j ∷ []) ks k (λ here. subst (IsFinePart t) (one_there j k here) (record {
    place = place;
    part = first_true (rules.is_part place (tree_at t j)) (are_parts place (children (map (tree_at t) ks))) h;
    shallow = le-leb (levels (tree_at t j)) most_levels (omega (arith, deep));
  })) (among_parts place ks (second_true (rules.is_part place (tree_at t j)) (are_parts place (children (map (tree_at t) ks))) h) (omega (arith, deep)) k) there

  -- the form of a number
  node_of : (n : ℕ) (s : Shape) → slice_get t.shapes n ≡ Some s → name_in s ≡ None → (f : Form) × (tree_at t (14 + n) ≡ Tree.node f (children (map (tree_at t) s.parts)))
  node_of n s at no_name = by (viewed (place_at t) t.shapes tables.shapes (14 + n) (omega (arith, slice_get_within t.shapes n s at)))
    where
      by : PartView (place_at t) t.shapes tables.shapes (14 + n) (part_tree (shape_trees (place_at t) t.shapes) (14 + n)) → (f : Form)
          × (tree_at t (14 + n) ≡ Tree.node f (children (map (tree_at t) s.parts)))
      by (is_primitive p small stands number) = absurd (omega (arith, small))
      by (is_name m q x is there stands) =
          let same : n ≡ m = omega (arith, is) in
          let wrong : ◌≡◌ {A = Option (ℕ × Text)} None (Some (q, x)) = sym no_name ∙ ap name_in (same-some s (named_shape q x) (sym at ∙ (ap (slice_get t.shapes) same ∙ there))) in absurd cc
      by (is_node m f ks is there stands range) =
          (f, stands ∙ ap (λ (s : Shape). Tree.node f (children (map (tree_at t) s.parts))) (sym (same-some s (node_shape f ks) (sym at ∙ (ap (slice_get t.shapes) (omega (arith, is)) ∙ there)))))

  -- the parts of a fine part
  parts_of_fine : (n : ℕ) (s : Shape) → slice_get t.shapes n ≡ Some s → name_in s ≡ None → IsFinePart t (14 + n) → (k : ℕ) → has s.parts k ≡ true → IsFinePart t k
  parts_of_fine n s at no_name fine k there = search (std_rules, node_of, among_parts, second_true, leb-true)

  -- ---- what is shown

  module _ (n : ℕ) (s : Shape) (at : slice_get t.shapes n ≡ Some s) (no_name : name_in s ≡ None) where
    sort_named : (b : Bool) → (s.sort == 0) ≡ b → not b ≡ true
    sort_named true e = let wrong : ◌≡◌ {A = Option (ℕ × Text)} None (Some (s.number, first_label s.labels)) =
        sym no_name ∙ ap (λ b. if b then Some (s.number, first_label s.labels) else None) e in absurd cc
    sort_named false e = refl

    pub has_form : (k : ℕ) → k ≡ 14 + n → is_form t k ≡ true
    has_form k e = ap (is_form t) e ∙ (ap (λ o. option_map_or (λ (s : Shape). not (s.sort == 0)) o false) (shape_there t (14 + n) n s refl at) ∙ sort_named (s.sort == 0) refl)

    -- what is declared
    form_fine : (place : Place) (k : ℕ) → IsPart t k → rules.is_declared place (declaration_of t (Some k)) ≡ true → is_form t k ≡ true → has (form_parts t k) (14 + n) ≡ true → IsFinePart t (14 + n)
    form_fine place k range obeys form there = by (viewed (place_at t) t.shapes tables.shapes k range)
      where
        by : PartView (place_at t) t.shapes tables.shapes k (part_tree (shape_trees (place_at t) t.shapes) k) → IsFinePart t (14 + n)
        by (is_primitive q small stands number) = let wrong : false ≡ true = sym (ap (λ o. option_map_or (λ (s : Shape). not (s.sort == 0)) o false) (no_shape t k small)) ∙ form in absurd cc
        by (is_name m q x is at stands) = let wrong : false ≡ true = sym (ap (is_form t) is
            ∙ ap (λ o. option_map_or (λ (s : Shape). not (s.sort == 0)) o false) (shape_there t (14 + m) m (named_shape q x) refl at)) ∙ form in absurd cc
        by (is_node m f ks is at stands parts) =
            let rule = sym (ap (λ x. rules.is_declared place (TypeDeclaration.type_ x)) stands) ∙ obeys in
            among_parts place ks (second_true _ _ (first_true _ _ rule)) (leb-true _ _ (second_true _ _ rule)) (14 + n)
            (sym (ap (λ l. has l (14 + n)) (ap (form_parts t) is ∙ ap (λ o. option_map_or (λ (s : Shape). s.parts) o []) (shape_there t (14 + m) m (node_shape f ks) refl at))) ∙ there)

    declared_fine : (place : Place) (d : Option ℕ) → AllOf (IsPart t) d → rules.is_declared place (declaration_of t d) ≡ true → has (declared_parts t d) (14 + n) ≡ true → IsFinePart t (14 + n)
    declared_fine place None range obeys there = let wrong : false ≡ true = there in absurd cc
    declared_fine place (Some k) range obeys there = by (is_form t k) refl there
      where
        by : (b : Bool) → is_form t k ≡ b → has (if b then form_parts t k else k ∷ []) (14 + n) ≡ true → IsFinePart t (14 + n)
        by true form there = form_fine place k range obeys form there
        by false form there = let wrong : false ≡ true = sym form ∙ has_form k (one_there k (14 + n) there) in absurd cc

    showing_fine : (x : NumberedShowing) → ShowingObeys t x → has (showing_parts t x) (14 + n) ≡ true → IsFinePart t (14 + n)
    showing_fine x obeys there = in_both (x.part ∷ []) (declared_parts t x.declared) (14 + n)
        (λ here. let wrong : None ≡ Some obeys.name = sym (ap (name_at t) (one_there x.part (14 + n) here) ∙ (ap (option_and_then name_in) (shape_there t (14 + n) n s refl at) ∙ no_name))
        ∙ obeys.is in absurd cc) (declared_fine obeys.place x.declared obeys.range obeys.obeys) there

    showings_fine : (xs : List NumberedShowing) → AllByRecursion (ShowingObeys t) xs → has (flat_map (showing_parts t) xs) (14 + n) ≡ true → IsFinePart t (14 + n)
    showings_fine xs all there = in_flat (showing_parts t) (ShowingObeys t) (14 + n) showing_fine xs all there

    -- functions
    parameter_fine : (place : Place) (k : ℕ) → rules.is_parameter_type place (tree_at t k) ≡ true → k ≡ 14 + n → IsFinePart t (14 + n)
    parameter_fine place k h e = subst (IsFinePart t) e (record { place = place; part = first_true _ _ h; shallow = second_true _ _ h })

    params_fine : (place : Place) (xs : List (Text × ℕ)) → list_all (λ (x : Text × Tree). rules.is_parameter_type place x.1) (map (λ (p : Text × ℕ). (p.0, tree_at t p.1)) xs) ≡ true
        → has (map (λ (x : Text × ℕ). x.1) xs) (14 + n) ≡ true → IsFinePart t (14 + n)
    params_fine place [] h there = let wrong : false ≡ true = there in absurd cc
    params_fine place (x ∷ xs) h there = in_both (x.1 ∷ []) (map (λ (y : Text × ℕ). y.1) xs) (14 + n) (λ here. parameter_fine place x.1 (first_true _ _ h)
        (one_there x.1 (14 + n) here)) (params_fine place xs (second_true _ _ h)) there

    result_fine : (place : Place) (r : Option ℕ) → rules.is_result_type place (option_map (tree_at t) r) ≡ true → has (option_to_list r) (14 + n) ≡ true → IsFinePart t (14 + n)
    result_fine place None h there = let wrong : false ≡ true = there in absurd cc
    result_fine place (Some k) h there = parameter_fine place k h (one_there k (14 + n) there)

    function_fine : (m : ℕ) → SignatureObeys t m → has (function_parts t m) (14 + n) ≡ true → IsFinePart t (14 + n)
    function_fine m obeys there =
        let f = function_at t m in
        in_both (map (λ (x : Text × ℕ). x.1) f.params) (option_to_list f.result) (14 + n) (params_fine obeys.place f.params (second_true _ _ (first_true _ _ obeys.obeys)))
        (result_fine obeys.place f.result (second_true _ _ obeys.obeys)) there

    functions_fine : (ms : List ℕ) → AllByRecursion (SignatureObeys t) ms → has (flat_map (function_parts t) ms) (14 + n) ≡ true → IsFinePart t (14 + n)
    functions_fine ms all there = in_flat (function_parts t) (SignatureObeys t) (14 + n) function_fine ms all there

pub used_are_fine : UsedPartsAreFine
used_are_fine t tables showings shown signatures called marks used n s is at no_name =
    used_fine t tables (IsFinePart t) (parts_of_fine t tables) showings signatures (λ m r r_at none. showings_fine t tables m r r_at none showings shown)
    (λ m r r_at none. functions_fine t tables m r r_at none signatures called) marks used n s is at no_name
