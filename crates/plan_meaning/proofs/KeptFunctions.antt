-- Functions whose types are those of kept shapes pass the tests on their types and their resource.
use Rattle.std.proofs.Common.{◌≡◌, inl, inr, refl, sym, ap, subst, ◌∙◌, ℕ, ◌+◌, arith, Bool, true, false, not, ◌&&◌, ◌||◌, ◌==◌, cond, List, [], ◌∷◌, length, drop, filter_map, Option, Some, None, option_to_list, is_none, slice_get, codes, rules as std_rules}
use Rattle.std.proofs.lemmas.{Bool.eqb-true, Bool.eq-eqb, Bool.lt-ltb, Bool.or_right, Bool.and_from as both, List.Folds.list_all-map}
use Rattle.std.proofs.lemmas.Option.{slice_get_within}
use Rattle.std.specs.{Prelude.nat_le, Prelude.nat_eq, Prelude.option_and_then, List.AllZip, List.list_all, List.starts_with, Option.option_map_or}
use Rattle.wit_model.specs.declared.model.{TypeOwner.TypeOwner, FunctionKind.FunctionKind}
use Rattle.wit_model.specs.{Text.Text, Text.text_eq, Lookup.resource_of, Rules.after_prefix, Rules.in_list, Rules.is_freestanding, Rules.is_id, Rules.passes}
use Rattle.wit_model.specs.{Names.is_label, Names.method_name, Names.static_name, Tree.Place, Tree.Form, Tree.levels}
use Rattle.wit_model.proofs.{VersionLaws.same_text, TextLemmas.text_same}
use Rattle.comp_meaning.specs.Rules.{is_label_behind, most_levels}
use Rattle.plan_meaning.specs.Shapes.{Shape, first_label, form_code, named_shape, node_shape, IsShape, a_name, a_node, part_tree}
use Rattle.plan_meaning.specs.Plan.{Plan, PlannedType, PlannedFunction, formed, function_parts, part_number, type_in, trees_in}
use Rattle.plan_meaning.specs.PlanRules.{is_borrow_of, is_member, is_member_of, is_member_name, is_own_of, is_result_of_own, is_shallow, part_is, resource_name}
use Rattle.plan_meaning.specs.Renumbering.{IsPart, a_primitive, a_shape}
use Rattle.plan_meaning.specs.NumberedViews.{FunctionShape, Tables, tree_at, AreTables}
use Rattle.plan_meaning.specs.NumberedRules.{Fact, shape_at, name_in, only_of, held_in, own_sort, borrow_sort, ok_in, begins_with_self, constructs, is_handle, is_name}
use Rattle.plan_meaning.specs.GatheredPlan.{Becomes, BecomesIfGiven, ParamBecomes}
use Rattle.plan_meaning.specs.KeptTypes.{IsKeptType, unnamed, declared, TypesAreKept}
use Rattle.plan_meaning.specs.KeptFunctions.{IsResource, IsKindOf, of_none, a_constructor, a_method, an_async_method, a_static, an_async_static, IsKeptFunction, FunctionPasses, KeptFunctionsPass}
use Rattle.plan_meaning.proofs.KeptParts.{shape_parts, signature_parts, function_zip, numbers_pass, kept_at}
use Rattle.plan_meaning.proofs.{GatheredPlan.parts_kept, Lists.no_true, ShapeLaws.split_part, Words.behind}
use Rattle.plan_meaning.proofs.{KeptTypes.keeps, KeptTypes.member_labels, NumberedRules.no_name, NumberedRules.no_shape, NumberedRules.shape_there}
use Rattle.base_lemmas.proofs.{Bools.left_of as first_true, Bools.right_of as second_true, Elements.all_weaker, Elements.joined_well, Elements.zip_map}
use Rattle.base_lemmas.proofs.Lists.{map_of_map}
use Rattle.wit_model.specs.declared.model.FunctionKind.TheVariants as call
use Rattle.comp_meaning.specs.Rules as rules
use Rattle.plan_meaning.specs.PlanRules as plan

-- ---- names

behind_label : (ps bs : Text) → is_label_behind ps bs ≡ true → option_map_or is_label (after_prefix ps bs) false ≡ true
behind_label [] bs h = h
behind_label (p ∷ ps) [] h = no_true h
behind_label (p ∷ ps) (b ∷ bs) h = by (p == b) refl (behind_label ps bs) h
  where
    by : (v : Bool) → (p == b) ≡ v → (is_label_behind ps bs ≡ true → option_map_or is_label (after_prefix ps bs) false ≡ true) → is_label_behind (p ∷ ps) (b ∷ bs) ≡ true
        → option_map_or is_label (cond v (after_prefix ps bs) None) false ≡ true
    by true e more h = more (sym (ap (λ v. (v && starts_with nat_eq bs ps) && is_label (drop (length ps) bs)) e) ∙ h)
    by false e more h = no_true (sym (ap (λ v. (v && starts_with nat_eq bs ps) && is_label (drop (length ps) bs)) e) ∙ h)

-- ---- forms by their numbers

own_form : (f : Form) → ((form_code f).sort == own_sort) ≡ true → f ≡ Form.own_of
own_form x h = search std_rules

borrow_form : (f : Form) → ((form_code f).sort == borrow_sort) ≡ true → f ≡ Form.borrow_of
borrow_form x h = search std_rules

-- what is the one number
only_is : (ks : List ℕ) (k : ℕ) → only_of ks ≡ Some k → ks ≡ k ∷ []
only_is y k h = search std_rules

-- a result that gives something where it succeeds
result_form : (form : Form) (olds : List ℕ) (i : ℕ) → ok_in (node_shape form olds) ≡ Some i → (err : Bool) × (rest : List ℕ) × (form ≡ Form.result_of true err) × (olds ≡ i ∷ rest)
result_form y olds i h = search std_rules

module _ (t : Tables) (tables : AreTables t) (known : ℕ → Fact) (kept : List ℕ) (p : Plan) (are : TypesAreKept t kept p) where
  -- ---- parts

  abbrev Becoming : ℕ → ℕ → Type 0
  Becoming = Becomes t kept p

  one_new : (k : ℕ) (olds news : List ℕ) → AllZip Becoming (k ∷ olds) news → (new : ℕ) × (rest : List ℕ) × (news ≡ new ∷ rest) × Becoming k new
  one_new k olds [] z = absurd z
  one_new k olds (new ∷ news) z = (new, news, refl, z.0)

  -- the type that a shape becomes
  kept_there : (old new m j : ℕ) → old ≡ 14 + m → slice_get kept j ≡ Some m → new ≡ 14 + j → Becoming old new → (x : PlannedType) × (type_in p j ≡ Some x) × IsKeptType t kept p m x
  kept_there old new m j from stands to b = let range = b.range in kept_at t kept p are j m (omega (arith, range, to)) stands

  -- ---- levels

  parts_shallow : (place : Place) (olds news : List ℕ) → AllZip Becoming olds news → list_all (λ k. rules.is_parameter_type place (tree_at t k)) olds ≡ true → list_all (is_shallow p) news ≡ true
  parts_shallow place olds news z h = sym (list_all-map (λ x. nat_le (levels x) most_levels) (part_tree (trees_in p)) news)
      ∙ (ap (list_all (λ x. nat_le (levels x) most_levels)) (parts_kept t tables kept p (keeps t tables kept p are) olds news z)
      ∙ (list_all-map (λ x. nat_le (levels x) most_levels) (tree_at t) olds
      ∙ all_weaker (λ k. rules.is_parameter_type place (tree_at t k)) (λ k. nat_le (levels (tree_at t k)) most_levels)
      (λ k e. second_true (rules.is_part place (tree_at t k)) (nat_le (levels (tree_at t k)) most_levels) e) olds h))

  module _ (o : TypeOwner) (q : ℕ) where
    -- ---- resources

    module _ (name : Text) (n : ℕ) (is : IsResource t known kept p o q name n) where
      resource_has_name : resource_name p o n ≡ Some name
      resource_has_name = search std_rules

      -- the shape of a name in the place
      name_shape : (k : ℕ) → is_name t known q name k ≡ true → k ≡ 14 + is.shape
      name_shape k h = elim (split_part k) [
        | inl low ↦ no_true (sym (ap (λ o. option_map_or (λ (x : ℕ × Text). x.0 == q && text_eq x.1 name) (option_and_then name_in o) false) (no_shape t k low)) ∙ h)
        | inr m ↦ by m.0 m.1 (slice_get t.shapes m.0) refl
      ]
        where
          named : (m : ℕ) (s : Shape) → slice_get t.shapes m ≡ Some s → option_map_or (λ (x : ℕ × Text). x.0 == q && text_eq x.1 name) (name_in s) false ≡ true → IsShape m s → m ≡ is.shape
          named m s there h (a_name place label same) =
              let test : ((place == q) && text_eq label name) ≡ true = sym (ap (λ (x : Shape). option_map_or (λ (y : ℕ × Text). y.0 == q && text_eq y.1 name) (name_in x) false) same) ∙ h in
              let places = eqb-true place q (first_true (place == q) (text_eq label name) test) in
              let labels = text_same label name (second_true (place == q) (text_eq label name) test) in
              tables.shapes.apart m is.shape (named_shape q name) (there ∙ (ap Some same ∙ (λ i. Some (named_shape (places i) (labels i))))) is.shape_is
          named m s there h (a_node form ks same low) = no_true (sym (ap (λ (x : Shape). option_map_or (λ (y : ℕ × Text). y.0 == q && text_eq y.1 name) (name_in x) false) same
              ∙ ap (λ b. option_map_or (λ (y : ℕ × Text). y.0 == q && text_eq y.1 name) (cond b (Some ((form_code form).number, first_label (form_code form).labels)) None) false) (no_name form)) ∙ h)

          by : (m : ℕ) → k ≡ 14 + m → (found : Option Shape) → slice_get t.shapes m ≡ found → k ≡ 14 + is.shape
          by m e None there =
              let nothing : shape_at t k ≡ None = ap (shape_at t) e ∙ (ap (option_and_then (slice_get t.shapes)) (behind m) ∙ there) in
              no_true (sym (ap (λ o. option_map_or (λ (x : ℕ × Text). x.0 == q && text_eq x.1 name) (option_and_then name_in o) false) nothing) ∙ h)
          by m e (Some s) there =
              let test = sym (ap (λ o. option_map_or (λ (x : ℕ × Text). x.0 == q && text_eq x.1 name) (option_and_then name_in o) false) (shape_there t k m s e there)) ∙ h in
              e ∙ ap (λ i. 14 + i) (named m s there test (tables.shapes.each m s there))

      -- the name becomes the number of the resource
      name_becomes : (k new : ℕ) → is_name t known q name k ≡ true → Becoming k new → is_id n (part_number new) ≡ true
      name_becomes k new h b = by b.part
        where
          shape_is : k ≡ 14 + is.shape
          shape_is = name_shape k h

          by : IsPart kept k new → is_id n (part_number new) ≡ true
          by (a_primitive low same) = absurd (omega (arith, low, shape_is))
          by (a_shape m j from stands to) = ap (is_id n) (ap part_number to ∙ behind j) ∙ eq-eqb j n (are.once j n is.shape (stands ∙ ap Some (omega (arith, from, shape_is))) is.stands)

      -- ---- handles

      module _ (handle : Form) (sort : ℕ) (by_sort : (f : Form) → ((form_code f).sort == sort) ≡ true → f ≡ handle) (not_name : (0 == sort) ≡ false) where
        -- the parts of a shape that is a handle of the resource
        handle_parts : (form : Form) (olds : List ℕ) → option_map_or (is_name t known q name) (held_in sort (node_shape form olds)) false ≡ true → (k : ℕ) × (form ≡ handle) × (olds ≡ k ∷ [])
            × (is_name t known q name k ≡ true)
        handle_parts form olds h = by ((form_code form).sort == sort) refl (only_of olds) refl h
          where
            by : (b : Bool) → ((form_code form).sort == sort) ≡ b → (found : Option ℕ) → only_of olds ≡ found → option_map_or (is_name t known q name) (cond b found None) false ≡ true
                → (k : ℕ) × (form ≡ handle) × (olds ≡ k ∷ []) × (is_name t known q name k ≡ true)
            by true e (Some k) f h = (k, by_sort form e, only_is olds k f, h)
            by _ e _ f h = no_true h

        -- the type of a handle of the resource
        record IsHandleType (x : PlannedType) : Type 0 where
          none : x.name ≡ None
          part : ℕ
          rest : List ℕ
          kind : x.kind ≡ formed handle (part ∷ rest)
          number : is_id n (part_number part) ≡ true

        handle_type : (old m : ℕ) → old ≡ 14 + m → is_handle t known q sort name old ≡ true → (x : PlannedType) → IsKeptType t kept p m x → IsHandleType x
        handle_type old m e h x (declared place label d there named home kind before good obeys) = search (std_rules, no_true, shape_there)
        handle_type old m e h x (unnamed place form olds news there z none unowned kind part low) =
            let here = sym (ap (λ o. option_map_or (is_name t known q name) (option_and_then (held_in sort) o) false) (shape_there t old m (node_shape form olds) e there)) ∙ h in
            let parts = handle_parts form olds here in
            let first = one_new parts.0 [] news (subst (λ (ks : List ℕ). AllZip Becoming ks news) parts.2 z) in
            record { none = none; part = first.0; rest = first.1; kind = kind ∙ (λ i. formed (parts.1 i) (first.2 i)); number = name_becomes parts.0 first.0 parts.3 first.3 }

        handle_becomes : (test : PlannedType → Bool) → ((x : PlannedType) → IsHandleType x → test x ≡ true) → (old new : ℕ) → is_handle t known q sort name old ≡ true → Becoming old new
            → part_is p test new ≡ true
        handle_becomes test passes_test old new h b = by b.part
          where
            by : IsPart kept old new → part_is p test new ≡ true
            by (a_primitive low same) = no_true (sym (ap (λ o. option_map_or (is_name t known q name) (option_and_then (held_in sort) o) false) (no_shape t old low)) ∙ h)
            by (a_shape m j from stands to) =
                let there = kept_there old new m j from stands to b in
                ap (λ o. option_map_or (λ k. option_map_or test (type_in p k) false) o false) (ap part_number to ∙ behind j)
                ∙ (ap (λ o. option_map_or test o false) there.1 ∙ passes_test there.0 (handle_type old m from h there.0 there.2))

      own_becomes : (old new : ℕ) → is_handle t known q own_sort name old ≡ true → Becoming old new → part_is p (is_own_of n) new ≡ true
      own_becomes = handle_becomes Form.own_of own_sort own_form refl (is_own_of n) (λ x is_type. both _ _ (ap is_none is_type.none) (ap (plan.is_own_kind n) is_type.kind ∙ is_type.number))

      -- ---- constructors and methods

      result_type : (old m i : ℕ) → old ≡ 14 + m → option_and_then ok_in (shape_at t old) ≡ Some i → is_handle t known q own_sort name i ≡ true → (x : PlannedType) → IsKeptType t kept p m x
          → is_result_of_own p n x ≡ true
      result_type old m i e ok h x (declared place label d there named home kind before good obeys) =
          let nothing : None ≡ Some i = sym (ap (option_and_then ok_in) (shape_there t old m (named_shape place label) e there)) ∙ ok in absurd cc
      result_type old m i e ok h x (unnamed place form olds news there z none unowned kind part low) =
          let made = result_form form olds i (sym (ap (option_and_then ok_in) (shape_there t old m (node_shape form olds) e there)) ∙ ok) in
          let first = one_new i made.1 news (subst (λ (ks : List ℕ). AllZip Becoming ks news) made.3 z) in
          both (is_none x.name) (plan.has_own_ok p n x.kind) (ap is_none none) (ap (plan.has_own_ok p n) (kind ∙ (λ j. formed (made.2 j) (first.2 j))) ∙ own_becomes i first.0 h first.3)

      result_becomes : (old new i : ℕ) → option_and_then ok_in (shape_at t old) ≡ Some i → is_handle t known q own_sort name i ≡ true → Becoming old new → part_is p (is_result_of_own p n) new ≡ true
      result_becomes old new i ok h b = by b.part
        where
          by : IsPart kept old new → part_is p (is_result_of_own p n) new ≡ true
          by (a_primitive low same) = let nothing : None ≡ Some i = sym (ap (option_and_then ok_in) (no_shape t old low)) ∙ ok in absurd cc
          by (a_shape m j from stands to) =
              let there = kept_there old new m j from stands to b in
              ap (λ o. option_map_or (λ k. option_map_or (is_result_of_own p n) (type_in p k) false) o false) (ap part_number to ∙ behind j)
              ∙ (ap (λ o. option_map_or (is_result_of_own p n) o false) there.1 ∙ result_type old m i from ok h there.0 there.2)

      constructs_becomes : (a b : Option ℕ) → BecomesIfGiven t kept p a b → constructs t known q name a ≡ true
          → option_map_or (λ k. part_is p (is_own_of n) k || part_is p (is_result_of_own p n) k) b false ≡ true
      constructs_becomes None b becomes h = no_true h
      constructs_becomes (Some old) None becomes h = absurd becomes
      constructs_becomes (Some old) (Some new) becomes h = by (option_and_then ok_in (shape_at t old)) refl h
        where
          by : (found : Option ℕ) → option_and_then ok_in (shape_at t old) ≡ found → option_map_or (is_handle t known q own_sort name) found (is_handle t known q own_sort name old) ≡ true
              → (part_is p (is_own_of n) new || part_is p (is_result_of_own p n) new) ≡ true
          by None e h = ap (λ c. c || part_is p (is_result_of_own p n) new) (own_becomes old new h becomes)
          by (Some i) e h = or_right (part_is p (is_own_of n) new) (part_is p (is_result_of_own p n) new) (result_becomes old new i e h becomes)

      self_becomes : (xs ys : List (Text × ℕ)) → AllZip (ParamBecomes t kept p) xs ys → begins_with_self t known q name xs ≡ true
          → option_map_or (λ (y : Text × ℕ). text_eq y.0 (codes "self") && part_is p (is_borrow_of n) y.1) (slice_get ys 0) false ≡ true
      self_becomes [] ys z h = no_true h
      self_becomes (x ∷ xs) [] z h = absurd z
      self_becomes (x ∷ xs) (y ∷ ys) z h = both _ _ (ap (λ u. text_eq u (codes "self")) z.0.0 ∙ first_true _ _ h)
          ((handle_becomes Form.borrow_of borrow_sort borrow_form refl (is_borrow_of n) (λ x is_type. both _ _ (ap is_none is_type.none) (ap (plan.is_borrow_kind n) is_type.kind ∙ is_type.number)))
          x.1 y.1 (second_true _ _ h) z.0.1)

      member_is : (g : PlannedFunction) (kind : FunctionKind) → g.kind ≡ kind → resource_of kind ≡ Some n → is_member_of p n name g kind ≡ true → is_member p o g ≡ true
      member_is g kind e own h = search (std_rules, resource_has_name)

      number_is : (kind : FunctionKind) → resource_of kind ≡ Some n → list_all (in_list p.types) (option_to_list (resource_of kind)) ≡ true
      number_is kind e = ap (λ x. list_all (in_list p.types) (option_to_list x)) e ∙ both (in_list p.types n) true (lt-ltb n (length p.types) (slice_get_within p.types n is.type_ is.there)) refl

    -- ---- a function

    module _ (name : Text) (f : FunctionShape) (id : Option Text) (g : PlannedFunction) (is : IsKeptFunction t known kept p o q name f id g) where
      name_behind : (front : Text) → is_label_behind front name ≡ true → is_member_name front g ≡ true
      name_behind front h = behind_label front g.name (ap (is_label_behind front) is.named ∙ h)

      belongs : IsKindOf t known kept p o q name f g.kind → is_member p o g ≡ true
      belongs (of_none label e) = ap (passes (λ m. option_map_or (λ r. is_member_of p m r g g.kind) (resource_name p o m) false)) e
      belongs (a_constructor id r e there named made) = search (std_rules, member_is, both, same_text, named, constructs_becomes)
      belongs (a_method id r e there named self) = search (std_rules, member_is, both, name_behind (method_name r []) named, named, self_becomes r id.0 there f.params g.params is.becomes.params self)
      belongs (an_async_method id r e there named self) =
          search (std_rules, member_is, both, name_behind (method_name r []) named, named, self_becomes r id.0 there f.params g.params is.becomes.params self)
      belongs (a_static id r e there named) = member_is r id.0 there g (call.Static id) e refl (name_behind (static_name r []) named)
      belongs (an_async_static id r e there named) = member_is r id.0 there g (call.AsyncStatic id) e refl (name_behind (static_name r []) named)

      resource_number : IsKindOf t known kept p o q name f g.kind → list_all (in_list p.types) (option_to_list (resource_of g.kind)) ≡ true
      resource_number (of_none label e) = ap (λ x. list_all (in_list p.types) (option_to_list x)) e
      resource_number (a_constructor id r e there named made) = number_is r id.0 there g.kind (ap resource_of e)
      resource_number (a_method id r e there named self) = number_is r id.0 there g.kind (ap resource_of e)
      resource_number (an_async_method id r e there named self) = number_is r id.0 there g.kind (ap resource_of e)
      resource_number (a_static id r e there named) = number_is r id.0 there g.kind (ap resource_of e)
      resource_number (an_async_static id r e there named) = number_is r id.0 there g.kind (ap resource_of e)

      name_is_label : IsKindOf t known kept p o q name f g.kind → (not (is_freestanding g.kind) || is_label g.name) ≡ true
      name_is_label (of_none label e) = or_right (not (is_freestanding g.kind)) (is_label g.name) (ap is_label is.named ∙ label)
      name_is_label (a_constructor id r e there named made) = ap (λ k. not (is_freestanding k) || is_label g.name) e
      name_is_label (a_method id r e there named self) = ap (λ k. not (is_freestanding k) || is_label g.name) e
      name_is_label (an_async_method id r e there named self) = ap (λ k. not (is_freestanding k) || is_label g.name) e
      name_is_label (a_static id r e there named) = ap (λ k. not (is_freestanding k) || is_label g.name) e
      name_is_label (an_async_static id r e there named) = ap (λ k. not (is_freestanding k) || is_label g.name) e

      function_passes : FunctionPasses p o g
      function_passes = record {
        in_range = joined_well (in_list p.types) (filter_map part_number (function_parts g)) (option_to_list (resource_of g.kind))
            (numbers_pass t kept p (shape_parts f) (function_parts g) (function_zip t kept p f id g is.becomes) (in_list p.types) (λ old c j m from at low. lt-ltb j _ low)) (resource_number is.kind);
        labels = both _ _ (name_is_label is.kind) (search (std_rules, zip_map, member_labels, map_of_map, first_true));
        shallow = parts_shallow is.place (shape_parts f) (function_parts g) (function_zip t kept p f id g is.becomes) (signature_parts t is.place f is.obeys);
        belongs = belongs is.kind;
      }

pub kept_functions_pass : KeptFunctionsPass
kept_functions_pass t tables known kept p are o q name f id g is = function_passes t tables known kept p are o q name f id g is
