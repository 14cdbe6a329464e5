-- The functions of a plan as they are read, of interfaces and of worlds: then they pass all tests of a plan on functions
-- (WIT.md, "Functions").
use Rattle.std.specs.Prelude.{◌≡◌, ℕ, Bool, true, false, List, Option, Some}
use Rattle.std.specs.List.{AllByRecursion}
use Rattle.wit_model.specs.declared.model.TypeOwner.{TypeOwner}
use Rattle.wit_model.specs.{Text.Text, Valid.as_interface, Valid.as_world}
use Rattle.plan_meaning.specs.Plan.{Plan, PlannedFunction, PlannedInterface, PlannedWorld, interface_in, world_in}
use Rattle.plan_meaning.specs.PlanRules.{FunctionsPass, function_in_range, function_labels, function_stays, function_is_shallow, functions_of, is_member, takes_values, world_functions}
use Rattle.plan_meaning.specs.NumberedViews.{FunctionShape, Tables, place_at, tree_at, signature_over, PartsOf, AreTables}
use Rattle.plan_meaning.specs.{NumberedRules.Fact, NumberedRules.IsSeenFrom, KeptTypes.TypesAreKept, KeptFunctions.IsKeptFunction, KeptResources.AreMarked}
use Rattle.plan_meaning.specs.KeptOwners.{AreOwned}
use Rattle.comp_meaning.specs.Rules as rules

-- what is kept beside the tables: what is known of each part, which parts are resources, and the owner of each place
pub record Beside : Type 0 where
  pub known : ℕ → Fact
  pub marks : ℕ → Bool
  pub owners : ℕ → TypeOwner

-- The function is read in the owner's place, as one whose type is kept there and is over values.
pub record IsReadFunction (t : Tables) (kept : List ℕ) (p : Plan) (b : Beside) (o : TypeOwner) (g : PlannedFunction) : Type 0 where
  pub place : ℕ
  pub name : Text
  pub shape : FunctionShape
  pub external_id : Option Text
  pub owned : b.owners place ≡ o
  pub kept_function : IsKeptFunction t b.known kept p o place name shape external_id g
  pub seen : PartsOf (IsSeenFrom t place) shape
  pub obeys : rules.is_signature (place_at t place) (signature_over (tree_at t) shape) ≡ true
  pub values : PartsOf (λ k. b.marks k ≡ false) shape

-- each function of the plan is
pub record FunctionsAreRead (t : Tables) (kept : List ℕ) (p : Plan) (b : Beside) : Type 0 where
  pub of_interfaces : (n : ℕ) (i : PlannedInterface) → interface_in p n ≡ Some i → AllByRecursion (IsReadFunction t kept p b (as_interface n)) (functions_of i)
  pub of_worlds : (n : ℕ) (w : PlannedWorld) → world_in p n ≡ Some w → AllByRecursion (IsReadFunction t kept p b (as_world n)) (world_functions w)

-- the tests of a plan on functions
pub record FunctionTests (p : Plan) : Type 0 where
  pub functions_in_range : FunctionsPass p (λ o f. function_in_range p f)
  pub functions_labelled : FunctionsPass p (λ o f. function_labels f)
  pub functions_stay : FunctionsPass p (function_stays p)
  pub functions_take_values : FunctionsPass p (λ o f. takes_values p f)
  pub functions_shallow : FunctionsPass p (λ o f. function_is_shallow p f)
  pub functions_belong : FunctionsPass p (is_member p)

abbrev pub ReadFunctionsPass : Type 0
ReadFunctionsPass = (t : Tables) → AreTables t → (kept : List ℕ) (p : Plan) → TypesAreKept t kept p → (b : Beside) → AreMarked t kept p b.marks
    → AreOwned t kept p b.owners → FunctionsAreRead t kept p b → FunctionTests p
