-- One view of each path is enough.
use Rattle.std.proofs.Common.{rules as std_rules, ◌≡◌, refl, sym, ap, subst, ◌∙◌, zero, suc, Bool, true, false, ◌&&◌, cond, List, [], ◌∷◌, map, arith, rules}
use Rattle.std.proofs.lemmas.{Bool.and_from, Slice.Eq.bytes_eq-Decides}
use Rattle.std.specs.{List.Contains, List.list_all, FinMap.from_entries}
use Rattle.wit_model.specs.{Text.Text, Text.TextMap, Text.text_eq, Meaning.FunctionMeaning, Meaning.TypeMeaning, Meaning.InterfaceMeaning}
use Rattle.wit_model.proofs.Maps.{one_map}
use Rattle.comp_meaning.specs.{Follow.ShownType, SameLaws.HaveDistinctNames, SameLaws.named_meaning}
use Rattle.comp_meaning.specs.Reads.{Sight, same_functions, agree, all_agree, are_interfaces, functions_of, seen_meaning}
use Rattle.comp_meaning.proofs.{FunctionLists.functions_make_one_map, SameLaws.shown_types_decide, AgreementLaws.distinct_behind}
use Rattle.plan_meaning.specs.Gathering.{ViewsMeanOne, OneViewIsEnough}
use Rattle.base_lemmas.proofs.{Bools.left_of as first_true, Bools.right_of as second_true, Elements.all-contained, Elements.contains-map, Elements.map_from}

-- what a view shows of types
abbrev types_of : Sight → List (Text × TypeMeaning)
types_of s = map named_meaning s.view.types

alike : (s t : Sight) → agree s t ≡ true → s.path ≡ t.path → types_of s ≡ types_of t
alike s t h e = search (std_rules, bytes_eq-Decides, shown_types_decide, first_true)

one_types : (all : List Sight) → all_agree all ≡ true → (s t : Sight) → Contains all s → Contains all t → s.path ≡ t.path → types_of s ≡ types_of t
one_types [] h s t (i, l, e) d p = absurd (omega (arith, l))
one_types (x ∷ xs) h s t (zero, l, e) (zero, k, f) p = ap types_of (sym e ∙ f)
one_types (x ∷ xs) h s t (zero, l, e) (suc j, k, f) p = alike s t (ap (λ y. agree y t) (sym e) ∙ all-contained (agree x) xs t (first_true (list_all (agree x) xs) _ h) (j, omega (arith, k), f)) p
one_types (x ∷ xs) h s t (suc i, l, e) (zero, k, f) p = sym (alike t s (ap (λ y. agree y s) (sym f) ∙ all-contained _ _ s (first_true _ _ h) (i, omega (arith, l), e)) (sym p))
one_types (x ∷ xs) h s t (suc i, l, e) (suc j, k, f) p = search (std_rules, second_true, one_types xs (second_true (list_all (agree x) xs) _ h) s t (i, omega (arith, l), e) (j, omega (arith, k), f) p)

-- ---- functions

-- no function stands twice in a view of an interface
functions_once : (all : List Sight) → are_interfaces all ≡ true → (s : Sight) → Contains all s → HaveDistinctNames s.view.functions
functions_once all h s c = distinct_behind (map (λ (t : ShownType). t.name) s.view.types) (map (λ (f : Text × FunctionMeaning). f.0) s.view.functions) (second_true _ _ (all-contained _ _ s h c))

-- the functions of two views of one path that show them make one map
same_whole : (s t : Sight) → agree s t ≡ true → s.path ≡ t.path → s.whole ≡ true → t.whole ≡ true → same_functions s.view.functions t.view.functions ≡ true
same_whole s t h e p q = search rules

-- these make the map of the view's functions
abbrev MeanThose : Sight → List (Text × FunctionMeaning) → Type 0
MeanThose s fs = ◌≡◌ {A = TextMap FunctionMeaning} (from_entries fs) (from_entries s.view.functions)

-- Where all views agree, a view that shows functions shows those that the first of its path does.
pub functions_mean_one : (all : List Sight) → all_agree all ≡ true → are_interfaces all ≡ true → (s : Sight) → Contains all s → s.whole ≡ true → MeanThose s (functions_of s.path all)
functions_mean_one [] h i s (k, l, e) whole = absurd (omega (arith, l))
functions_mean_one (x ∷ xs) h i s c whole = by (text_eq s.path x.path && x.whole) refl c (λ d. functions_mean_one xs (second_true _ _ h) (second_true _ _ i) s d whole)
  where
    once : (y : Sight) → Contains (x ∷ xs) y → HaveDistinctNames y.view.functions
    once y d = functions_once (x ∷ xs) i y d

    this : (text_eq s.path x.path && x.whole) ≡ true → Contains (x ∷ xs) s → MeanThose s x.view.functions
    this first (zero, l, e) = ap (λ (y : Sight). from_entries y.view.functions) e
    this first (suc j, l, e) = (functions_make_one_map x.view.functions s.view.functions (once x (0, omega arith, refl)) (once s (suc j, l, e))).0
        (same_whole x s (all-contained _ _ s (first_true _ _ h) (j, omega (arith, l), e)) (sym ((bytes_eq-Decides s.path x.path).0 (first_true _ _ first))) (second_true _ _ first) whole)

    by : (b : Bool) → (text_eq s.path x.path && x.whole) ≡ b → Contains (x ∷ xs) s → (Contains xs s → MeanThose s (functions_of s.path xs))
        → MeanThose s (cond b x.view.functions (functions_of s.path xs))
    by true first d later = this first d
    by false first (zero, l, e) later =
        let wrong : false ≡ true = sym first ∙ and_from _ _ ((bytes_eq-Decides s.path x.path).1 (ap (λ (y : Sight). y.path) (sym e))) (ap (λ (y : Sight). y.whole) e ∙ whole) in absurd cc
    by false first (suc j, l, e) later = later (j, omega (arith, l), e)

-- ---- views

pub views_mean_one : ViewsMeanOne
views_mean_one all h s t c d p = search (std_rules, one_types)

pub one_view_is_enough : OneViewIsEnough
one_view_is_enough all chosen shown h among enough = one_map (map (seen_meaning all) chosen) (map (seen_meaning all) shown) (record { one_value = one_value; there = there; here = here })
  where
    there : (k : Text) (x : InterfaceMeaning) → Contains (map (seen_meaning all) chosen) (k, x) → Contains (map (seen_meaning all) shown) (k, x)
    there k x c =
        let s = map_from (seen_meaning all) chosen (k, x) c in
        subst (λ (q : Text × InterfaceMeaning). Contains (map (seen_meaning all) shown) q) s.2 (contains-map (seen_meaning all) shown s.0 (enough.among s.0 s.1))

    here : (k : Text) (x : InterfaceMeaning) → Contains (map (seen_meaning all) shown) (k, x) → Contains (map (seen_meaning all) chosen) (k, x)
    here k x c =
        let s = map_from (seen_meaning all) shown (k, x) c in
        let t = enough.each s.0 s.1 in
        let same : seen_meaning all t.0 ≡ (k, x) = views_mean_one all h t.0 s.0 (among t.0 (enough.among t.0 t.1)) (among s.0 s.1) t.2 ∙ s.2 in
        subst (λ (q : Text × InterfaceMeaning). Contains (map (seen_meaning all) chosen) q) same (contains-map (seen_meaning all) chosen t.0 t.1)

    one_value : (k : Text) (x y : InterfaceMeaning) → Contains (map (seen_meaning all) chosen) (k, x) → Contains (map (seen_meaning all) chosen) (k, y) → x ≡ y
    one_value k x y c d =
        let s = map_from (seen_meaning all) chosen (k, x) c in
        let t = map_from (seen_meaning all) chosen (k, y) d in
        ap (λ (q : Text × InterfaceMeaning). q.1) (sym s.2 ∙ (views_mean_one all h s.0 t.0 (among s.0 (enough.among s.0 s.1)) (among t.0 (enough.among t.0 t.1))
        (ap (λ (q : Text × InterfaceMeaning). q.0) s.2 ∙ sym (ap (λ (q : Text × InterfaceMeaning). q.0) t.2)) ∙ t.2))
