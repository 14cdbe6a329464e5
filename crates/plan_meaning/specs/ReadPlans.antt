-- A plan as it is read, whole: then all holds of it that a `Resolve` that is built from it asks for (WIT.md; Component Model WIT.md,
-- "Package Format").
use Rattle.std.specs.Prelude.{◌≤◌, ◌<◌, ℕ, length, List}
use Rattle.plan_meaning.specs.{Plan.Plan, PlanRules.IsPlan, KeptOwners.AreOwned, ReadOrder.OrderIsRead}
use Rattle.plan_meaning.specs.{NumberedViews.Tables, NumberedViews.AreTables, NumberedViews.NumberedView, ReadFunctions.Beside, ReadFunctions.FunctionsAreRead}
use Rattle.plan_meaning.specs.{NumberedMembers.Homes, NumberedMembers.HomesStand, KeptTypes.TypesAreKept, KeptResources.AreMarked, ReadPlaces.PlacesAreRead}

-- Nothing is more often there than the input has bytes, of which there are less than 2^32.
pub record FitsInput (p : Plan) : Type 0 where
  pub bytes : ℕ
  pub counted : bytes < 4294967296
  pub packages : length p.packages ≤ bytes
  pub interfaces : length p.interfaces ≤ bytes
  pub worlds : length p.worlds ≤ bytes
  pub types : length p.types ≤ bytes

-- The plan is read into these tables: its types are those that are kept, each in its place, and its interfaces and worlds are those that were
-- shown, in the order in which they were.
pub record IsReadPlan (t : Tables) (h : Homes) (kept : List ℕ) (p : Plan) (b : Beside) (views : ℕ → NumberedView) : Type 0 where
  pub fits : FitsInput p
  pub types : TypesAreKept t kept p
  pub resources : AreMarked t kept p b.marks
  pub owners : AreOwned t kept p b.owners
  pub functions : FunctionsAreRead t kept p b
  pub places : PlacesAreRead t h p b.owners
  pub order : OrderIsRead t kept p b views

abbrev pub ReadPlanStands : Type 0
ReadPlanStands = (t : Tables) → AreTables t → (h : Homes) → HomesStand t h → (kept : List ℕ) (p : Plan) (b : Beside) (views : ℕ → NumberedView)
    → IsReadPlan t h kept p b views → IsPlan p
