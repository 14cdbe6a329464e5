-- What holds of the parts of a list, of the numbers that they become; the parts of a function in one list.
use Rattle.std.proofs.Common.{rules as std_rules, ◌≡◌, sym, ◌∙◌, ◌<◌, ℕ, ◌+◌, ◌-◌, Bool, true, List, [], ◌∷◌, ◌++◌, length, map, filter_map, Option, Some, None, option_to_list, slice_get, subst}
use Rattle.std.proofs.lemmas.{Bool.and_from as both, List.Folds.list_all-map, Option.same_Some as same-some}
use Rattle.std.specs.List.{AllByRecursion, AllZip, Contains, list_all}
use Rattle.wit_model.specs.{Text.Text, Tree.Place}
use Rattle.plan_meaning.specs.Plan.{Plan, PlannedFunction, function_parts, part_number, PlannedType}
use Rattle.plan_meaning.specs.{KeptTypes.IsKeptType, KeptTypes.TypesAreKept}
use Rattle.plan_meaning.specs.NumberedViews.{FunctionShape, Tables, AllOf, PartsOf, tree_at, signature_over}
use Rattle.plan_meaning.specs.GatheredPlan.{Becomes, BecomesIfGiven, FunctionBecomes, ParamBecomes}
use Rattle.base_lemmas.proofs.{Bools.left_of as first_true, Bools.right_of as second_true, Lists.within_there as slice_there}
use Rattle.base_lemmas.proofs.Elements.{all_both, all_pass, filter_map_from, get-contains, joined_well, seconds, zip-append, zip_at_right}
use Rattle.comp_meaning.specs.Rules as rules

-- the parts of a function's type, the result last
abbrev pub shape_parts : FunctionShape → List ℕ
shape_parts f = map (λ x. x.1) f.params ++ option_to_list f.result

pub all_parts : (P : ℕ → Type 0) (f : FunctionShape) → PartsOf P f → AllByRecursion P (shape_parts f)
all_parts P f h = all_both P (map (λ (x : Text × ℕ). x.1) f.params) (option_to_list f.result) (seconds P f.params h.0) (given f.result h.1)
  where
    given : (o : Option ℕ) → AllOf P o → AllByRecursion P (option_to_list o)
    given None h = tt
    given (Some k) h = (h, tt)

-- the parts of a signature that obeys the rules may be parameters
pub signature_parts : (t : Tables) (place : Place) (f : FunctionShape) → rules.is_signature place (signature_over (tree_at t) f) ≡ true
    → list_all (λ k. rules.is_parameter_type place (tree_at t k)) (shape_parts f) ≡ true
signature_parts t place f h = search (std_rules, joined_well, list_all-map, second_true, first_true, both)

-- the type of a shape that is kept
pub kept_at : (t : Tables) (kept : List ℕ) (p : Plan) → TypesAreKept t kept p → (j m : ℕ) → j < length p.types → slice_get kept j ≡ Some m
    → (x : PlannedType) × (slice_get p.types j ≡ Some x) × IsKeptType t kept p m x
kept_at t kept p are j m low at =
    let found = slice_there p.types j low in
    let is = are.each j found.0 found.1 in
    (found.0, found.1, subst (λ k. IsKeptType t kept p k found.0) (same-some is.0 m (sym is.1 ∙ at)) is.2)

module _ (t : Tables) (kept : List ℕ) (p : Plan) where
  pub function_zip : (f : FunctionShape) (id : Option Text) (g : PlannedFunction) → FunctionBecomes t kept p f id g → AllZip (Becomes t kept p) (shape_parts f) (function_parts g)
  function_zip f id g is = zip-append (Becomes t kept p) (map (λ (x : Text × ℕ). x.1) f.params) (map (λ (y : Text × ℕ). y.1) g.params) (option_to_list f.result) (option_to_list g.result)
      (along f.params g.params is.params) (given f.result g.result is.result)
    where
      along : (xs ys : List (Text × ℕ)) → AllZip (ParamBecomes t kept p) xs ys → AllZip (Becomes t kept p) (map (λ (x : Text × ℕ). x.1) xs) (map (λ (y : Text × ℕ). y.1) ys)
      along [] [] z = tt
      along (x ∷ xs) (y ∷ ys) z = (z.0.1, along xs ys z.1)
      along _ _ z = absurd z

      given : (a b : Option ℕ) → BecomesIfGiven t kept p a b → AllZip (Becomes t kept p) (option_to_list a) (option_to_list b)
      given None None z = tt
      given (Some a) (Some b) z = (z, tt)
      given _ _ z = absurd z

  -- a number of the plan, and the shape that it is of
  pub number_from : (old new : ℕ) → Becomes t kept p old new → (j : ℕ) → part_number new ≡ Some j → (m : ℕ) × (old ≡ 14 + m) × (slice_get kept j ≡ Some m) × (j < length p.types)
  number_from old new is j e = search std_rules

  module _ (olds news : List ℕ) (z : AllZip (Becomes t kept p) olds news) where
    pub part_from : (j : ℕ) → Contains (filter_map part_number news) j → (old : ℕ) × Contains olds old × (m : ℕ) × (old ≡ 14 + m) × (slice_get kept j ≡ Some m) × (j < length p.types)
    part_from j c = search (std_rules, filter_map_from part_number news j c, zip_at_right, number_from, get-contains)

    pub numbers_pass : (test : ℕ → Bool) → ((old : ℕ) → Contains olds old → (j m : ℕ) → old ≡ 14 + m → slice_get kept j ≡ Some m → j < length p.types → test j ≡ true)
        → list_all test (filter_map part_number news) ≡ true
    numbers_pass test each = all_pass test (filter_map part_number news) (λ j c. let from = part_from j c in each from.0 from.1 j from.2 from.3 from.4 from.5)
