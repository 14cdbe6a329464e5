-- What holds names of one place stays with the owner of that place.
use Rattle.std.proofs.Common.{◌≡◌, inl, inr, refl, sym, ap, subst, ◌∙◌, ℕ, zero, suc, ◌+◌, ◌-◌, ◌<◌, arith, Bool, true, false, not, ◌&&◌, ◌||◌, ◌==◌, cond, List, [], ◌∷◌, ◌++◌, length, map, take, filter_map, Option, Some, None, is_some, slice_get, unwrap_or, rules as std_rules}
use Rattle.std.proofs.lemmas.{Bool.eqb-true, Bool.eq-eqb, Bool.lt-ltb, Bool.or_right, Bool.and_from as both, List.Folds.list_all-append}
use Rattle.std.specs.{List.AllZip, List.Contains, List.cons_option, List.flat_map, List.list_all, Option.option_map_or}
use Rattle.wit_model.specs.declared.model.TypeOwner.{TypeOwner}
use Rattle.wit_model.specs.{Text.Text, Tree.Place, Tree.Form, Tree.Tree, Tree.children, Parts.met_by, Parts.same_owner}
use Rattle.comp_meaning.specs.Rules.{are_parts, is_named_form}
use Rattle.comp_meaning.proofs.SameLaws.{places_decide}
use Rattle.plan_meaning.specs.{Shapes.Shape, Shapes.node_shape, Shapes.named_shape, Renumbering.IsPart, Renumbering.a_primitive, Renumbering.a_shape}
use Rattle.plan_meaning.specs.Plan.{Plan, PlannedType, PlannedFunction, kind_numbers, part_number, met_at, met_in, has_owner, function_parts}
use Rattle.plan_meaning.specs.{PlanRules.function_stays, PlanRules.is_use, PlanRules.type_stays, NumberedRules.IsSeenFrom}
use Rattle.plan_meaning.specs.NumberedViews.{FunctionShape, Tables, place_at, tree_at, signature_over, declaration_of, AllOf, PartsOf, AreTables, itself, inside}
use Rattle.plan_meaning.specs.GatheredPlan.{Becomes, DeclaresKind, a_resource, a_form, FunctionBecomes}
use Rattle.plan_meaning.specs.KeptTypes.{IsKeptType, unnamed, declared, TypesAreKept}
use Rattle.plan_meaning.specs.KeptOwners.{AreOwned, OwnersStand, KeptOwnersStand}
use Rattle.plan_meaning.proofs.KeptParts.{shape_parts, all_parts, signature_parts, function_zip, numbers_pass, kept_at}
use Rattle.plan_meaning.proofs.{GatheredPlan.form_tree, KeptTypes.form_obeys, KeptTypes.keeps, KeptTypes.parts_before, Lists.no_true, MetTypes.met_there}
use Rattle.plan_meaning.proofs.{NumberedRules.no_name, NumberedRules.shape_there, ShapeLaws.name_tree, ShapeLaws.part_behind, ShapeLaws.tree_at_number}
use Rattle.plan_meaning.proofs.Words.{behind}
use Rattle.base_lemmas.proofs.Bools.{left_of as first_true, right_of as second_true}
use Rattle.base_lemmas.proofs.{Elements.all_at, Elements.all_by_number, Elements.all-contained, Elements.flat_all, Lists.slice_take}
use Rattle.comp_meaning.specs.Rules as rules
use Rattle.plan_meaning.specs.Plan as plan
use Rattle.plan_meaning.specs.GatheredPlan as gathered

module _ (t : Tables) (tables : AreTables t) (kept : List ℕ) (p : Plan) (are : TypesAreKept t kept p) (owners : ℕ → TypeOwner) (owned : AreOwned t kept p owners) where
  abbrev all_met : List (List ℕ)
  all_met = met_in p

  name_there : (n q : ℕ) (name : Text) → slice_get t.shapes n ≡ Some (named_shape q name) → tree_at t (14 + n) ≡ Tree.named (place_at t q) name
  name_there n q name e = search (std_rules, part_behind, tree_at_number (place_at t) t.shapes tables.shapes n (named_shape q name) e, name_tree)

  module _ (q : ℕ) where
    abbrev IsOwn : List ℕ → Type 0
    IsOwn ns = list_all (has_owner p (owners q)) ns ≡ true

    own_both : (xs ys : List ℕ) → IsOwn xs → IsOwn ys → IsOwn (xs ++ ys)
    own_both xs ys h k = list_all-append (has_owner p (owners q)) xs ys ∙ both (list_all (has_owner p (owners q)) xs) (list_all (has_owner p (owners q)) ys) h k

    -- ---- a part, by a table of what is met

    -- what is met at the number that a part becomes is the owner's
    abbrev IsMetAs : List (List ℕ) → ℕ → Type 0
    IsMetAs table new = (ms : List ℕ) → IsOwn (flat_map (met_by table) ms) → IsOwn (flat_map (met_by table) (cons_option (part_number new) ms))

    -- what may be a part, as it is seen from the place
    record IsPartHere (k : ℕ) : Type 0 where
      part : rules.is_part (place_at t q) (tree_at t k) ≡ true
      seen : IsSeenFrom t q k

    abbrev Smaller : ℕ → Type 0
    Smaller j = (i n : ℕ) → i < j → i < length p.types → slice_get kept i ≡ Some n → IsPartHere (14 + n) → IsOwn (met_by all_met i)

    met_low : (table : List (List ℕ)) (new : ℕ) → new < 14 → IsMetAs table new
    met_low table new low ms more = ap (λ c. list_all (has_owner p (owners q)) (flat_map (met_by table) (cons_option (cond c None (Some (new - 14))) ms))) (lt-ltb new 14 low) ∙ more

    met_number : (table : List (List ℕ)) (new i : ℕ) → new ≡ 14 + i → IsOwn (met_by table i) → IsMetAs table new
    met_number table new i to own ms more = search (std_rules, behind, own_both)

    part_of_form : (place : Place) (ks : List ℕ) → are_parts place (children (map (tree_at t) ks)) ≡ true → (k : ℕ) → Contains ks k → rules.is_part place (tree_at t k) ≡ true
    part_of_form place [] h k (i, low, e) = absurd (omega (arith, low))
    part_of_form place (l ∷ ks) h k (zero, low, e) = search (std_rules, first_true)
    part_of_form place (l ∷ ks) h k (suc i, low, e) = part_of_form place ks (second_true _ _ h) k (i, omega (arith, low), e)

    -- ---- a type of the plan

    named_here : (j n : ℕ) (x : PlannedType) (r : ℕ) (name : Text) → slice_get p.types j ≡ Some x → slice_get kept j ≡ Some n → slice_get t.shapes n ≡ Some (named_shape r name) → r ≡ q
        → has_owner p (owners q) j ≡ true
    named_here j n x r name e stands there same = search std_rules

    -- the parts of a form
    form_met : (table : List (List ℕ)) (n : ℕ) (form : Form) (olds news : List ℕ) → slice_get t.shapes n ≡ Some (node_shape form olds) → AllZip (Becomes t kept p) olds news
        → are_parts (place_at t q) (children (map (tree_at t) olds)) ≡ true → ((old : ℕ) → Contains olds old → IsSeenFrom t q old)
        → ((i m : ℕ) → slice_get kept i ≡ Some m → m < n → i < length p.types → IsPartHere (14 + m) → IsOwn (met_by table i)) → IsOwn (flat_map (met_by table) (filter_map part_number news))
    form_met table n form olds news there z parts seen lookup = flat_all (has_owner p (owners q)) (met_by table) (filter_map part_number news)
        ∙ numbers_pass t kept p olds news z (λ i. list_all (has_owner p (owners q)) (met_by table i)) (λ old c i m from at range.
        let low_old : old < 14 + n = all_at (λ k. k < 14 + n) olds (parts_before t tables kept p are n form olds there) old c in
        lookup i m at (omega (arith, from, low_old)) range (subst IsPartHere from (record { part = part_of_form (place_at t q) olds parts old c; seen = seen old c })))

    type_met : (j n : ℕ) → Smaller j → (x : PlannedType) → slice_get p.types j ≡ Some x → slice_get kept j ≡ Some n → IsKeptType t kept p n x → IsPartHere (14 + n)
        → IsOwn (met_at (take j all_met) (j, x))
    type_met j n smaller x e stands (declared r name d there named home kind before good obeys) here =
        let same_place : place_at t q ≡ place_at t r = (places_decide (place_at t q) (place_at t r)).0 (sym (ap (rules.is_part (place_at t q)) (name_there n r name there)) ∙ here.part) in
        let same : r ≡ q = here.seen r (itself (14 + n) n r name refl there) (sym same_place) in
        ap (λ o. list_all (has_owner p (owners q)) (option_map_or (λ y. j ∷ []) o (flat_map (met_by (take j all_met)) (kind_numbers x.kind)))) named
        ∙ both (has_owner p (owners q) j) true (named_here j n x r name e stands there same) refl
    type_met j n smaller x e stands (unnamed place form olds news there z name unowned kind part low) here =
        let parts : are_parts (place_at t q) (children (map (tree_at t) olds)) ≡ true = second_true (not (is_named_form form)) (are_parts (place_at t q) (children (map (tree_at t) olds)))
        (sym (ap (rules.is_part (place_at t q)) (form_tree t tables kept p (keeps t tables kept p are) (14 + n) n form olds refl there)) ∙ here.part) in
        ap (λ o. list_all (has_owner p (owners q)) (option_map_or (λ y. j ∷ []) o (flat_map (met_by (take j all_met)) (kind_numbers x.kind)))) name
        ∙ (ap (λ k. list_all (has_owner p (owners q)) (flat_map (met_by (take j all_met)) (kind_numbers k))) kind
        ∙ form_met (take j all_met) n form olds news there z parts (λ old c r has. here.seen r (inside (14 + n) n old r form olds refl there c has)) (λ i m at less range here_old.
        let before : i < j = are.rise i j m n at stands less in
        ap (λ o. list_all (has_owner p (owners q)) (unwrap_or o [])) (slice_take all_met j i before) ∙ smaller i m before range at here_old))

    all_own : (fuel j n : ℕ) → j < fuel → j < length p.types → slice_get kept j ≡ Some n → IsPartHere (14 + n) → IsOwn (met_by all_met j)
    all_own zero j n h low stands here = absurd (omega (arith, h))
    all_own (suc fuel) j n h low stands here =
        let found = kept_at t kept p are j n low stands in
        ap (list_all (has_owner p (owners q))) (met_there p j found.0 found.1)
        ∙ type_met j n (λ i m less range at here_m. all_own fuel i m (omega (arith, less, h)) range at here_m) found.0 found.1 stands found.2 here

    -- ---- functions

    function_own : (f : FunctionShape) (id : Option Text) (g : PlannedFunction) → FunctionBecomes t kept p f id g → PartsOf (IsSeenFrom t q) f
        → rules.is_signature (place_at t q) (signature_over (tree_at t) f) ≡ true → function_stays p (owners q) g ≡ true
    function_own f id g b seen h = flat_all (has_owner p (owners q)) (met_by all_met) (filter_map part_number (function_parts g))
        ∙ numbers_pass t kept p (shape_parts f) (function_parts g) (function_zip t kept p f id g b) (λ i. list_all (has_owner p (owners q)) (met_by all_met i)) (λ old c i m from at range.
        let one = all-contained _ _ old (signature_parts t (place_at t q) f h) c in
        all_own (suc i) i m (omega arith) range at (subst IsPartHere from (record { part = first_true _ _ one; seen = all_at _ _ (all_parts (IsSeenFrom t q) f seen) old c })))

  -- ---- types

  -- what a type refers to is its owner's, or it is another name of another interface's
  abbrev IsFine : PlannedType → Type 0
  IsFine x = (list_all (has_owner p x.owner) (flat_map (met_by all_met) (kind_numbers x.kind)) || (is_some x.name && is_use p x)) ≡ true

  module _ (j n : ℕ) (x : PlannedType) (planned_there : slice_get p.types j ≡ Some x) (kept_there : slice_get kept j ≡ Some n) (r : ℕ) (name : Text) (there : slice_get t.shapes n ≡ Some (named_shape r name)) (named : x.name ≡ Some name) (home : x.owner ≡ owners r) where
    own_numbers : IsOwn r (flat_map (met_by all_met) (kind_numbers x.kind)) → IsFine x
    own_numbers h = ap (λ b. b || (is_some x.name && is_use p x)) (ap (λ o. list_all (has_owner p o) (flat_map (met_by all_met) (kind_numbers x.kind))) home ∙ h)

    alias_fine : (old new m i : ℕ) → x.kind ≡ plan.alias new → DeclaresKind t kept p (Some (14 + m)) x.kind → new ≡ 14 + i → (u : PlannedType) → slice_get p.types i ≡ Some u
        → slice_get kept i ≡ Some m → (s : ℕ) (other : Text) → slice_get t.shapes m ≡ Some (named_shape s other) → u.name ≡ Some other → IsFine x
    alias_fine old new m i k kind to u e stands s other at called = by (s == r) refl
      where
        owner_of : u.owner ≡ owners s
        owner_of = owned.owned i m u s other e stands at

        apart : (s == r) ≡ false → same_owner (owners s) (owners r) ≡ false
        apart none = no (same_owner (owners s) (owners r)) refl
          where
            no : (b : Bool) → same_owner (owners s) (owners r) ≡ b → b ≡ false
            no false h = refl
            no true h = no_true (sym none ∙ eq-eqb s r (owned.apart s r h))

        by : (b : Bool) → (s == r) ≡ b → IsFine x
        by true same =
            let met : met_by all_met i ≡ i ∷ [] = met_there p i u e ∙ ap (λ o. option_map_or (λ y. i ∷ []) o (flat_map (met_by (take i all_met)) (kind_numbers u.kind))) called in
            let own : IsOwn r (met_by all_met i) = ap (list_all (has_owner p (owners r))) met ∙ both (has_owner p (owners r) i) true
            (named_here r i m u s other e stands at (eqb-true s r same)) refl in
            own_numbers (ap (λ k. list_all (has_owner p (owners r)) (flat_map (met_by all_met) (kind_numbers k))) k ∙ met_number r all_met new i to own [] refl)
        by false none = elim (owned.used j n x r name m s other planned_there kept_there there kind at) [
          | inl same ↦ no_true (sym none ∙ eq-eqb s r same)
          | inr path ↦ or_right _ _ (both _ _ (ap is_some named) (search (std_rules, behind, both, owner_of, apart)))
        ]

    kind_fine : (d : Option ℕ) → rules.is_declared (place_at t r) (declaration_of t d) ≡ true → DeclaresKind t kept p d x.kind → IsFine x
    kind_fine d obeys (a_resource none k) = own_numbers (ap (λ y. list_all (has_owner p (owners r)) (flat_map (met_by all_met) (kind_numbers y))) k)
    kind_fine d obeys (a_form old m form olds news some from at z k) = own_numbers (ap (λ y. list_all (has_owner p (owners r)) (flat_map (met_by all_met) (kind_numbers y))) k
        ∙ form_met r all_met m form olds news at z (second_true _ _ (first_true _ _ (form_obeys t tables kept p are old m form olds from at (place_at t r) d some obeys)))
        (λ part c s has. (subst (AllOf (IsSeenFrom t r)) some (owned.seen j n x r name d planned_there kept_there there (a_form old m form olds news some from at z k))) s
        (inside old m part s form olds from at c has)) (λ i l stands less range here. all_own r (suc i) i l (omega arith) range stands here))
    kind_fine d obeys (gathered.a_name old new some no_form b k) = by b.part
      where
        by : IsPart kept old new → IsFine x
        by (a_primitive small same) =
            own_numbers (ap (λ y. list_all (has_owner p (owners r)) (flat_map (met_by all_met) (kind_numbers y))) k ∙ met_low r all_met new (omega (arith, small, same)) [] refl)
        by (a_shape m i from stands to) =
            let found = kept_at t kept p are i m (omega (arith, b.range, to)) stands in
            target found.2 found.1
          where
            target : {u : PlannedType} → IsKeptType t kept p m u → slice_get p.types i ≡ Some u → IsFine x
            target {u = u} (declared s other e at called home_u kind_u before good obeys_u) there_u =
                alias_fine old new m i k (subst (λ y. DeclaresKind t kept p y x.kind) (some ∙ ap Some from) (gathered.a_name old new some no_form b k)) to u there_u stands s other at called
            target {u = u} (unnamed place form olds news at z none unowned kind_u part low) there_u =
                no_true (sym no_form ∙ (ap (λ o. option_map_or (λ (y : Shape). not (y.sort == 0)) o false) (shape_there t old m (node_shape form olds) from at) ∙ ap not (no_name form)))

  type_fine : (j n : ℕ) (x : PlannedType) → slice_get p.types j ≡ Some x → slice_get kept j ≡ Some n → IsKeptType t kept p n x → type_stays p x ≡ true
  type_fine j n x e stands (unnamed place form olds news there z name unowned kind part low) = search std_rules
  type_fine j n x e stands (declared r name d there named home kind before good obeys) =
      search (std_rules, or_right, is_some x.name, kind_fine j n x e stands r name there named (owned.owned j n x r name e stands there) d obeys kind)

  stand : OwnersStand t kept p owners
  stand = record { types = all_by_number (type_stays p) p.types (λ j x e. let is = are.each j x e in type_fine j is.0 x e is.1 is.2); functions = λ q f id g b seen h. function_own q f id g b seen h }

pub kept_owners_stand : KeptOwnersStand
kept_owners_stand t tables kept p are owners owned = stand t tables kept p are owners owned
