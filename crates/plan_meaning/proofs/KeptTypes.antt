-- Types of a plan that are those of kept shapes pass the tests on types.
use Rattle.std.proofs.Common.{rules as std_rules, ◌≡◌, refl, sym, ap, subst, ◌∙◌, ℕ, ◌+◌, ◌-◌, ◌<◌, ◌≤◌, arith, true, false, not, ◌&&◌, List, [], ◌∷◌, length, map, filter_map, Option, Some, is_some, slice_get}
use Rattle.std.proofs.lemmas.{Bool.lt-ltb, Bool.le-leb, Bool.leb-true, Bool.and_from as both, Option.slice_get_past as slice_past}
use Rattle.std.proofs.lemmas.List.Folds.{list_all-map}
use Rattle.std.specs.{Prelude.nat_le, Prelude.nat_lt, List.AllByRecursion, List.AllZip, List.list_all, Option.option_map_or}
use Rattle.wit_model.specs.{Text.Text, Names.is_label, Rules.each_from, Rules.are_member_labels, Rules.has_items, Rules.passes}
use Rattle.wit_model.specs.Tree.{Place, Form, Tree, TypeDeclaration, children, deepest, levels}
use Rattle.comp_meaning.specs.{Rules.are_labels, Rules.are_parts, Rules.form_labels, Rules.is_named_form, Rules.most_levels, Follow.is_key_primitive}
use Rattle.plan_meaning.specs.Shapes.{Shape, node_shape, named_shape, part_tree, primitives}
use Rattle.plan_meaning.specs.Plan.{Plan, PlannedKind, PlannedType, part_number, kind_numbers, alias_number, trees_in}
use Rattle.plan_meaning.specs.PlanRules.{is_form, is_key_part, begins_with_key, type_labels, kind_labels, has_shape, is_named_kind, is_named_number, kind_is_named, is_shallow, parts_are_shallow}
use Rattle.plan_meaning.specs.Renumbering.{IsPart, a_primitive, a_shape, IsTypeOf, of_form, of_name}
use Rattle.plan_meaning.specs.NumberedViews.{Tables, place_at, tree_at, declaration_of, AllOf, AreTables}
use Rattle.plan_meaning.specs.GatheredPlan.{Becomes, DeclaresKind, a_resource, a_form, Keeps}
use Rattle.plan_meaning.specs.KeptTypes.{IsKeptForm, alone, of_name, IsKeptType, unnamed, declared, TypesAreKept, TypesPass, KeptTypesPass}
use Rattle.plan_meaning.proofs.{KeptParts.numbers_pass, KeptParts.kept_at, Words.behind}
use Rattle.plan_meaning.proofs.{Lists.no_true, Lists.each_so, GatheredPlan.parts_kept, GatheredPlan.form_tree}
use Rattle.base_lemmas.proofs.Bools.{left_of as first_true, right_of as second_true, or_true}
use Rattle.base_lemmas.proofs.Elements.{all_by_number, zip-kept as zip-weaker, all_at}
use Rattle.comp_meaning.proofs.RulesLemmas.{distinct_same}
use Rattle.wit_model.proofs.RulesLemmas.{each_by_number}
use Rattle.comp_meaning.specs.Rules as rules
use Rattle.plan_meaning.specs.NumberedRules as numbered
use Rattle.plan_meaning.specs.GatheredPlan as gathered

-- ---- lists

pub member_labels : (ts : List Text) → are_labels ts ≡ true → are_member_labels ts ≡ true
member_labels ts h = ap (λ b. list_all is_label ts && b) (distinct_same ts) ∙ h

-- ---- levels

shallow_parts : (ts : List Tree) (most : ℕ) → deepest (children ts) ≤ most → list_all (λ x. nat_le (levels x) most) ts ≡ true
shallow_parts [] most h = refl
shallow_parts (x ∷ ts) most h = both (nat_le (levels x) most) (list_all (λ y. nat_le (levels y) most) ts) (le-leb (levels x) most (omega (arith, h))) (shallow_parts ts most (omega (arith, h)))

-- ---- forms

no_labels : (form : Form) → not (is_named_form form) ≡ true → form_labels form ≡ []
no_labels x h = search std_rules

module _ (t : Tables) (kept : List ℕ) (p : Plan) where
  items_same : (olds news : List ℕ) → AllZip (Becomes t kept p) olds news → has_items olds ≡ true → has_items news ≡ true
  items_same x news z h = search std_rules

  key_part : (old new : ℕ) → IsPart kept old new → is_key_part old ≡ true → is_key_part new ≡ true
  key_part old new (a_primitive low same) h = ap is_key_part same ∙ h
  key_part old new (a_shape n j is stands to) h = no_true
      (sym (let many : length primitives ≡ 14 = refl in ap (λ o. option_map_or is_key_primitive o false) (slice_past primitives old (omega (arith, is, many)))) ∙ h)

  key_same : (olds news : List ℕ) → AllZip (Becomes t kept p) olds news → begins_with_key olds ≡ true → begins_with_key news ≡ true
  key_same [] news z h = no_true h
  key_same (old ∷ olds) [] z h = absurd z
  key_same (old ∷ olds) (new ∷ news) z h = key_part old new z.0.part h

  form_same : (form : Form) (olds news : List ℕ) → AllZip (Becomes t kept p) olds news → is_form form olds ≡ true → is_form form news ≡ true
  form_same x olds news z h = search (std_rules, items_same, key_same)

module _ (t : Tables) (tables : AreTables t) (kept : List ℕ) (p : Plan) (are : TypesAreKept t kept p) where
  -- ---- parts stand before

  pub parts_before : (n : ℕ) (form : Form) (olds : List ℕ) → slice_get t.shapes n ≡ Some (node_shape form olds) → AllByRecursion (λ k. k < 14 + n) olds
  parts_before n form olds e = search std_rules

  module _ (j n : ℕ) (stands : slice_get kept j ≡ Some n) where
    parts_fall : (olds news : List ℕ) → AllZip (Becomes t kept p) olds news → AllByRecursion (λ k. k < 14 + n) olds → list_all (λ m. nat_lt m j) (filter_map part_number news) ≡ true
    parts_fall olds news z low = numbers_pass t kept p olds news z (λ m. nat_lt m j) (λ old c i m from at range.
        let below = all_at (λ k. k < 14 + n) olds low old c in let less : i < j = are.rise i j m n at stands (omega (arith, below, from)) in lt-ltb i j less)

    kind_falls : (d : Option ℕ) (kind : PlannedKind) → AllOf (λ k. k < 14 + n) d → DeclaresKind t kept p d kind → list_all (λ m. nat_lt m j) (kind_numbers kind) ≡ true
    kind_falls d kind low (a_resource e k) = ap (λ x. list_all (λ m. nat_lt m j) (kind_numbers x)) k
    kind_falls d kind low (gathered.a_name old new e no_form b k) = search (std_rules, parts_fall)
    kind_falls d kind low (a_form old m form olds news e is there z k) = search (std_rules, parts_fall, each_so, parts_before)

    type_falls : (x : PlannedType) → IsKeptType t kept p n x → list_all (λ m. nat_lt m j) (kind_numbers x.kind) ≡ true
    type_falls x (unnamed place form olds news there z name owner kind part low) = ap (λ k. list_all (λ m. nat_lt m j) (kind_numbers k)) kind ∙ parts_fall olds news z (parts_before n form olds there)
    type_falls x (declared q name d there named home kind before good obeys) = kind_falls d x.kind before kind

  fall : each_from (λ n x. list_all (λ m. nat_lt m n) (kind_numbers x.kind)) 0 p.types ≡ true
  fall = each_by_number (λ n x. list_all (λ m. nat_lt m n) (kind_numbers x.kind)) p.types (λ j x e. let is = are.each j x e in type_falls j is.0 is.1 x is.2)

  -- ---- the types of the shapes

  type_of : (n : ℕ) (x : PlannedType) → IsKeptType t kept p n x → (s : Shape) × (slice_get t.shapes n ≡ Some s) × IsTypeOf (place_at t) kept p s x
  type_of n x (unnamed place form olds news there z name owner kind part low) =
      (node_shape form olds, there, of_form form olds news refl (zip-weaker (Becomes t kept p) (IsPart kept) (λ a b h. h.part) olds news z) name kind)
  type_of n x (declared q name d there named home kind before good obeys) = (named_shape q name, there, of_name q name refl named home)

  pub keeps : Keeps t kept p
  keeps = record {
    types = record { types = λ j x e. let is = are.each j x e in let made = type_of is.0 x is.2 in (is.0, made.0, is.1, made.1, made.2) };
    fall = fall;
  }

  -- ---- what an unnamed type is

  abbrev tree : ℕ → Tree
  tree n = tree_at t (14 + n)

  module _ (n : ℕ) (form : Form) (olds : List ℕ) (there : slice_get t.shapes n ≡ Some (node_shape form olds)) where
    unnamed_form : (place : Place) → rules.is_part place (tree n) ≡ true → not (is_named_form form) ≡ true
    unnamed_form place h = search (std_rules, first_true, form_tree, keeps)

    shallow_form : nat_le (levels (tree n)) most_levels ≡ true → deepest (children (map (tree_at t) olds)) ≤ most_levels
    shallow_form h = search (std_rules, leb-true, form_tree, keeps)

  parts_shallow : (olds news : List ℕ) → AllZip (Becomes t kept p) olds news → deepest (children (map (tree_at t) olds)) ≤ most_levels → list_all (is_shallow p) news ≡ true
  parts_shallow olds news z h = sym (list_all-map (λ x. nat_le (levels x) most_levels) (part_tree (trees_in p)) news)
      ∙ (ap (list_all (λ x. nat_le (levels x) most_levels)) (parts_kept t tables kept p keeps olds news z) ∙ shallow_parts (map (tree_at t) olds) most_levels h)

  -- ---- what is declared as a form

  module _ (old n : ℕ) (form : Form) (olds : List ℕ) (is : old ≡ 14 + n) (there : slice_get t.shapes n ≡ Some (node_shape form olds)) (place : Place) (d : Option ℕ) (e : d ≡ Some old)
      (obeys : rules.is_declared place (declaration_of t d) ≡ true) where
    pub form_obeys : (are_labels (form_labels form) && are_parts place (children (map (tree_at t) olds)) && nat_le (deepest (children (map (tree_at t) olds))) most_levels) ≡ true
    form_obeys = sym (ap (λ x. rules.is_declared place (declaration_of t x)) e ∙ ap (λ x. rules.is_declared place (TypeDeclaration.type_ x))
        (form_tree t tables kept p keeps old n form olds is there)) ∙ obeys

    form_has_labels : are_labels (form_labels form) ≡ true
    form_has_labels = search (std_rules, first_true, form_obeys)

    form_is_shallow : deepest (children (map (tree_at t) olds)) ≤ most_levels
    form_is_shallow = search (std_rules, leb-true, second_true, form_obeys)

  -- ---- shapes

  module _ (j n : ℕ) (x : PlannedType) (e : slice_get p.types j ≡ Some x) (stands : slice_get kept j ≡ Some n) where
    -- what the name is declared as
    pub form_of_name : (q : ℕ) (name : Text) → slice_get t.shapes n ≡ Some (named_shape q name) → (d : Option ℕ) → DeclaresKind t kept p d x.kind → (old m : ℕ) → d ≡ Some old → old ≡ 14 + m
        → IsKeptForm t kept p m
    form_of_name q name there d kind old m some is = of_name j n x q name e stands there (subst (λ o. DeclaresKind t kept p o x.kind) (some ∙ ap Some is) kind)

    kind_shaped : (q : ℕ) (name : Text) → slice_get t.shapes n ≡ Some (named_shape q name) → (d : Option ℕ) → DeclaresKind t kept p d x.kind → has_shape x.kind ≡ true
    kind_shaped q name there d kind = by kind
      where
        by : DeclaresKind t kept p d x.kind → has_shape x.kind ≡ true
        by (a_resource none k) = ap has_shape k
        by (gathered.a_name old new some no_form b k) = ap has_shape k
        by (a_form old m form olds news some is form_there z k) = ap has_shape k ∙ form_same t kept p form olds news z
            (are.forms m form olds (form_of_name q name there d kind old m some is) form_there)

    type_shaped : IsKeptType t kept p n x → has_shape x.kind ≡ true
    type_shaped (unnamed place form olds news there z name owner kind part low) = ap has_shape kind ∙ form_same t kept p form olds news z (are.forms n form olds (alone j x e stands) there)
    type_shaped (declared q name d there named home kind before good obeys) = kind_shaped q name there d kind

  -- ---- labels

  kind_has_labels : (place : Place) (d : Option ℕ) (kind : PlannedKind) → rules.is_declared place (declaration_of t d) ≡ true → DeclaresKind t kept p d kind
      → are_member_labels (kind_labels kind) ≡ true
  kind_has_labels place d kind obeys (a_resource e k) = ap (λ x. are_member_labels (kind_labels x)) k
  kind_has_labels place d kind obeys (gathered.a_name old new e no_form b k) = ap (λ x. are_member_labels (kind_labels x)) k
  kind_has_labels place d kind obeys (a_form old m form olds news e is there z k) =
      ap (λ x. are_member_labels (kind_labels x)) k ∙ member_labels (form_labels form) (form_has_labels old m form olds is there place d e obeys)

  type_has_labels : (n : ℕ) (x : PlannedType) → IsKeptType t kept p n x → type_labels x ≡ true
  type_has_labels n x (unnamed place form olds news there z name owner kind part low) = search (std_rules, both, no_labels, unnamed_form)
  type_has_labels n x (declared q name d there named home kind before good obeys) = search (std_rules, both, kind_has_labels (place_at t q) d x.kind obeys kind)

  -- ---- levels

  kind_is_shallow : (place : Place) (d : Option ℕ) (kind : PlannedKind) → rules.is_declared place (declaration_of t d) ≡ true → DeclaresKind t kept p d kind → parts_are_shallow p kind ≡ true
  kind_is_shallow place d kind obeys (a_resource e k) = ap (parts_are_shallow p) k
  kind_is_shallow place d kind obeys (gathered.a_name old new e no_form b k) = ap (parts_are_shallow p) k
  kind_is_shallow place d kind obeys (a_form old m form olds news e is there z k) = ap (parts_are_shallow p) k ∙ parts_shallow olds news z (form_is_shallow old m form olds is there place d e obeys)

  type_is_shallow : (n : ℕ) (x : PlannedType) → IsKeptType t kept p n x → parts_are_shallow p x.kind ≡ true
  type_is_shallow n x (unnamed place form olds news there z name owner kind part low) = ap (parts_are_shallow p) kind ∙ parts_shallow olds news z (shallow_form n form olds there low)
  type_is_shallow n x (declared q name d there named home kind before good obeys) = kind_is_shallow (place_at t q) d x.kind obeys kind

  -- ---- names

  -- the type of a shape that is no form has a name
  named_type : (old n : ℕ) → old ≡ 14 + n → numbered.is_form t old ≡ false → (x : PlannedType) → IsKeptType t kept p n x → is_some x.name ≡ true
  named_type old n is no_form x y = search std_rules

  alias_is_named : (d : Option ℕ) (kind : PlannedKind) → DeclaresKind t kept p d kind → passes (is_named_number p) (alias_number kind) ≡ true
  alias_is_named d kind (a_resource e k) = ap (λ x. passes (is_named_number p) (alias_number x)) k
  alias_is_named d kind (gathered.a_name old new e no_form b k) = ap (λ x. passes (is_named_number p) (alias_number x)) k ∙ (search (std_rules, lt-ltb, kept_at, behind, named_type))
  alias_is_named d kind (a_form old m form olds news e is there z k) = ap (λ x. passes (is_named_number p) (alias_number x)) k

  type_is_named : (n : ℕ) (x : PlannedType) → IsKeptType t kept p n x → kind_is_named p x ≡ true
  type_is_named n x (unnamed place form olds news there z name owner kind part low) = search (std_rules, both, is_some, unnamed_form)
  type_is_named n x (declared q name d there named home kind before good obeys) = search (std_rules, both, is_some x.name, or_true (not (is_named_kind x.kind)), alias_is_named d x.kind kind)

  pass : TypesPass p
  pass = record {
    types_fall = fall;
    type_labels = all_by_number type_labels p.types (λ j x e. let is = are.each j x e in type_has_labels is.0 x is.2);
    types_shaped = all_by_number (λ x. has_shape x.kind) p.types (λ j x e. let is = are.each j x e in type_shaped j is.0 x e is.1 is.2);
    kinds_named = all_by_number (kind_is_named p) p.types (λ j x e. let is = are.each j x e in type_is_named is.0 x is.2);
    depths = all_by_number (λ x. parts_are_shallow p x.kind) p.types (λ j x e. let is = are.each j x e in type_is_shallow is.0 x is.2);
  }

pub kept_types_pass : KeptTypesPass
kept_types_pass t tables kept p are = (keeps t tables kept p are, pass t tables kept p are)
