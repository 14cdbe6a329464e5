-- A plan of a package, and one of a world, as they are read: then nothing stands there without a reason (Component Model WIT.md, "Package Format").
use Rattle.std.specs.Prelude.{◌≡◌, ◌⊎◌, ◌+◌, ℕ, true, false, List, [], ◌∷◌, ◌++◌, map, Option, Some, None, slice_get}
use Rattle.std.specs.{List.AllByRecursion, List.AllZip, List.Contains, Cmp.Lexicographic.pointwise}
use Rattle.wit_model.specs.{Text.Text, Tree.Form, Valid.as_interface}
use Rattle.plan_meaning.specs.Plan.{Plan, formed, PlannedType, PlannedFunction, PlannedInterface, PlannedWorld, PlannedPackage, package_in, interface_in, world_in}
use Rattle.plan_meaning.specs.PlanRules.{functions_of, is_foreign, world_functions, IsPackagePlan, IsWorldPlan}
use Rattle.plan_meaning.specs.NumberedViews.{FunctionShape, Tables, AreTables, NumberedView, NumberedSight, same_shown}
use Rattle.plan_meaning.specs.NumberedWorlds.{HasPath, NumberedShown, instance, are_once, are_reached, place_of_key}
use Rattle.plan_meaning.specs.{NumberedMembers.Homes, NumberedMembers.HomesStand, NumberedMembers.home_at, NumberedMembers.is_of_package, ReadFunctions.Beside}
use Rattle.plan_meaning.specs.GatheredPlan.{Becomes, FunctionBecomes, FunctionListed, functions_seen}
use Rattle.plan_meaning.specs.{ReadWorlds.ReadItem, ReadPlans.IsReadPlan}

-- ---- why a type and a package are there

-- a parameter of the function, or its result, is this part
pub data IsPartOfFunction (f : FunctionShape) (old : ℕ) : Type 0 where
  a_parameter : (name : Text) → Contains f.params (name, old) → IsPartOfFunction f old
  a_result : f.result ≡ Some old → IsPartOfFunction f old

module _ (t : Tables) (h : Homes) (kept : List ℕ) (p : Plan) (b : Beside) where
  -- The part of the tables is one of a type that is kept, or of a function of an interface or of a world.
  pub data IsPartOfKept (old : ℕ) : Type 0 where
    of_type : (i : ℕ) (x : PlannedType) (form : Form) (olds news : List ℕ) → slice_get p.types i ≡ Some x → x.kind ≡ formed form news
        → AllZip (Becomes t kept p) olds news → Contains olds old → IsPartOfKept old
    of_interface : (m : ℕ) (i : PlannedInterface) (f : FunctionShape) (id : Option Text) (g : PlannedFunction) → interface_in p m ≡ Some i
        → Contains (functions_of i) g → FunctionBecomes t kept p f id g
        → IsPartOfFunction f old → IsPartOfKept old
    of_world : (m : ℕ) (w : PlannedWorld) (f : FunctionShape) (id : Option Text) (g : PlannedFunction) → world_in p m ≡ Some w → Contains (world_functions w) g
        → FunctionBecomes t kept p f id g
        → IsPartOfFunction f old → IsPartOfKept old

  -- some place under a path has its home in the package
  pub record HasHomes (n : ℕ) : Type 0 where
    pub place : ℕ
    pub path : HasPath t place
    pub name : Text
    pub home : home_at h place ≡ Some (n, name)
    pub number : ℕ
    pub owned : b.owners place ≡ as_interface number
    pub interface : PlannedInterface
    pub there : interface_in p number ≡ Some interface

  -- An unnamed type is kept as a part, without an external id, and a package but the main one for the places whose home it is.
  pub record IsKeptForReasons : Type 0 where
    pub types : (j k : ℕ) (x : PlannedType) → slice_get p.types j ≡ Some x → slice_get kept j ≡ Some k → x.name ≡ None → IsPartOfKept (14 + k)
    pub ids : (j : ℕ) (x : PlannedType) → slice_get p.types j ≡ Some x → x.name ≡ None → x.external_id ≡ None
    pub packages : (n : ℕ) (k : PlannedPackage) → package_in p n ≡ Some k → (n ≡ p.main) ⊎ HasHomes n

-- ---- why an interface is there

-- the place of an instance
abbrev pub place_shown : NumberedShown → Option ℕ
place_shown (instance key v) = Some (place_of_key key)
place_shown _ = None

module _ (t : Tables) (h : Homes) (kept : List ℕ) (p : Plan) (b : Beside) (views : ℕ → NumberedView) (read : IsReadPlan t h kept p b views) where
  -- a world imports or exports the interface of the place
  pub record IsShownByWorld (q : ℕ) : Type 0 where
    pub number : ℕ
    pub world : PlannedWorld
    pub there : world_in p number ≡ Some world
    pub item : ReadItem
    pub listed : Contains ((read.order.worlds number world there).imports ++ (read.order.worlds number world there).exports) item
    pub shows : place_shown item.seen.shown ≡ Some q

  -- the view is one of the interface of the place, whose types it shows
  pub record IsViewOf (x : ℕ × NumberedView) : Type 0 where
    pub number : ℕ
    pub owned : b.owners x.0 ≡ as_interface number
    pub interface : PlannedInterface
    pub there : interface_in p number ≡ Some interface
    pub agrees : pointwise same_shown (views x.0).types x.1.types ≡ true

  -- Why the interface of the place was seen: a world shows it, or the component type of an interface imports it, each of whose imports is reached.
  pub data IsSeenFor (q : ℕ) : Type 0 where
    in_world : IsShownByWorld q → IsSeenFor q
    in_member : (exported : ℕ × NumberedView) (imports : List (ℕ × NumberedView)) → are_reached t imports exported.1 ≡ true
        → are_once (exported.0 ∷ map (λ i. i.0) imports) ≡ true
        → AllByRecursion IsViewOf (exported ∷ imports) → Contains (map (λ i. i.0) imports) q → IsSeenFor q

  -- An interface of another package is there for a reason. It has the functions of the first view that shows some, which is one of a world, or the
  -- package's own.
  pub record ForeignIsRead (seen : List NumberedSight) : Type 0 where
    pub reasons : (q n : ℕ) (i : PlannedInterface) → HasPath t q → b.owners q ≡ as_interface n → interface_in p n ≡ Some i → is_of_package h p.main q ≡ false
        → IsSeenFor q
    pub functions : (n q : ℕ) (i : PlannedInterface) → interface_in p n ≡ Some i → b.owners q ≡ as_interface n → is_foreign p i ≡ true
        → AllZip (FunctionListed t kept p) (functions_seen q seen) i.functions
    pub whole : (s : NumberedSight) → Contains seen s → s.whole ≡ true → IsShownByWorld s.place ⊎ (is_of_package h p.main s.place ≡ true)

-- ---- whole plans

-- The plan is read as a package: its worlds are of that.
pub record IsReadPackagePlan (t : Tables) (h : Homes) (kept : List ℕ) (p : Plan) (b : Beside) (views : ℕ → NumberedView) : Type 0 where
  pub read : IsReadPlan t h kept p b views
  pub kept_for : IsKeptForReasons t h kept p b
  pub main : PlannedPackage
  pub stands : package_in p p.main ≡ Some main
  pub worlds : (m : ℕ) (w : PlannedWorld) → world_in p m ≡ Some w → w.package_ ≡ Some p.main
  pub seen : List NumberedSight
  pub foreign : ForeignIsRead t h kept p b views read seen

-- The plan is read as one world, which shows all places under a path.
pub record IsReadWorldPlan (t : Tables) (h : Homes) (kept : List ℕ) (p : Plan) (b : Beside) (views : ℕ → NumberedView) : Type 0 where
  pub read : IsReadPlan t h kept p b views
  pub kept_for : IsKeptForReasons t h kept p b
  pub world : PlannedWorld
  pub alone : p.worlds ≡ world ∷ []
  pub home : world.package_ ≡ Some p.main
  pub shown : (q n : ℕ) (i : PlannedInterface) → HasPath t q → b.owners q ≡ as_interface n → interface_in p n ≡ Some i
      → IsShownByWorld t h kept p b views read q

abbrev pub ReadPackagePlanStands : Type 0
ReadPackagePlanStands = (t : Tables) → AreTables t → (h : Homes) → HomesStand t h → (kept : List ℕ) (p : Plan) (b : Beside) (views : ℕ → NumberedView)
    → IsReadPackagePlan t h kept p b views → IsPackagePlan p

abbrev pub ReadWorldPlanStands : Type 0
ReadWorldPlanStands = (t : Tables) → AreTables t → (h : Homes) → HomesStand t h → (kept : List ℕ) (p : Plan) (b : Beside) (views : ℕ → NumberedView)
    → IsReadWorldPlan t h kept p b views → IsWorldPlan p
