-- Functions that are read pass the tests of a plan on functions.
use Rattle.std.proofs.Common.{◌≡◌, refl, subst, ℕ, Bool, true, List, [], ◌∷◌}
use Rattle.std.proofs.lemmas.Bool.{and_from as both}
use Rattle.std.specs.List.{AllByRecursion, list_all}
use Rattle.wit_model.specs.declared.model.TypeOwner.{TypeOwner}
use Rattle.wit_model.specs.Valid.{as_interface, as_world}
use Rattle.plan_meaning.specs.{Plan.Plan, Plan.PlannedFunction, NumberedViews.Tables, NumberedViews.AreTables, KeptFunctions.FunctionPasses}
use Rattle.plan_meaning.specs.PlanRules.{FunctionsPass, function_in_range, function_labels, function_stays, function_is_shallow, functions_of, is_member, takes_values, world_functions}
use Rattle.plan_meaning.specs.{KeptTypes.TypesAreKept, KeptResources.AreMarked, KeptOwners.AreOwned}
use Rattle.plan_meaning.specs.ReadFunctions.{Beside, IsReadFunction, FunctionsAreRead, FunctionTests, ReadFunctionsPass}
use Rattle.plan_meaning.proofs.{KeptFunctions.kept_functions_pass, KeptOwners.kept_owners_stand, KeptResources.kept_resources_stand}
use Rattle.wit_model.proofs.RulesLemmas.{each_by_number}

all_of : {X : Type 0} (P : X → Type 0) (test : X → Bool) → ((x : X) → P x → test x ≡ true) → (xs : List X) → AllByRecursion P xs → list_all test xs ≡ true
all_of P test passes [] all = refl
all_of P test passes (x ∷ xs) all = both (test x) (list_all test xs) (passes x all.0) (all_of P test passes xs all.1)

module _ (t : Tables) (tables : AreTables t) (kept : List ℕ) (p : Plan) (are : TypesAreKept t kept p) (b : Beside) (marked : AreMarked t kept p b.marks) (owned : AreOwned t kept p b.owners)
    (read : FunctionsAreRead t kept p b) where
  each_passes : (test : TypeOwner → PlannedFunction → Bool) → ((o : TypeOwner) (g : PlannedFunction) → IsReadFunction t kept p b o g → test o g ≡ true) → FunctionsPass p test
  each_passes test passes = record {
    of_interfaces = each_by_number _ _ (λ n i e. all_of (IsReadFunction t kept p b (as_interface n)) (test (as_interface n)) (passes (as_interface n)) (functions_of i) (read.of_interfaces n i e));
    of_worlds = each_by_number _ _ (λ n w e. all_of (IsReadFunction t kept p b (as_world n)) (test (as_world n)) (passes (as_world n)) (world_functions w) (read.of_worlds n w e));
  }

  pass : (o : TypeOwner) (g : PlannedFunction) → IsReadFunction t kept p b o g → FunctionPasses p o g
  pass o g is = kept_functions_pass t tables b.known kept p are o is.place is.name is.shape is.external_id g is.kept_function

  tests : FunctionTests p
  tests = record {
    functions_in_range = each_passes (λ o g. function_in_range p g) (λ o g is. (pass o g is).in_range);
    functions_labelled = each_passes (λ o g. function_labels g) (λ o g is. (pass o g is).labels);
    functions_stay = each_passes (function_stays p) (λ o g is. subst (λ (x : TypeOwner). function_stays p x g ≡ true) is.owned
        ((kept_owners_stand t tables kept p are b.owners owned).functions is.place is.shape is.external_id g is.kept_function.becomes is.seen is.obeys));
    functions_take_values = each_passes (λ o g. takes_values p g)
        (λ o g is. (kept_resources_stand t tables kept p are b.marks marked).functions is.shape is.external_id g is.kept_function.becomes is.values);
    functions_shallow = each_passes (λ o g. function_is_shallow p g) (λ o g is. (pass o g is).shallow);
    functions_belong = each_passes (is_member p) (λ o g is. (pass o g is).belongs);
  }

pub read_functions_pass : ReadFunctionsPass
read_functions_pass t tables kept p are b marked owned read = tests t tables kept p are b marked owned read
