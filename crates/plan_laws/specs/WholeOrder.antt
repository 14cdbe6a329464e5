-- What stands before what in a whole plan is as it was read (WIT.md, "Interfaces: use" and "Worlds"; Binary.md, "Import and Export Definitions").
use Rattle.std.specs.Prelude.{◌≡◌, ℕ, List, Some}
use Rattle.plan_meaning.specs.{NumberedMembers.Homes, NumberedMembers.home_at, NumberedRules.Fact, Plan.Plan, Plan.PlannedWorld, Plan.world_in}
use Rattle.plan_meaning.specs.{NumberedViews.NumberedView, NumberedViews.Tables, ReadFunctions.Beside, ReadFunctions.FunctionsAreRead, ReadOrder.OrderIsRead}
use Rattle.read_exports.specs.declared.members.Member.{Member}
use Rattle.plan_package.specs.PlanWhole.{PlansWhole}
use Rattle.plan_laws.specs.{FirstViews.ViewsAreOrdered, ViewedInterfaces.views_read, Whole.IsPackageInput, WholeWorlds.IsReadAs, WholeWorlds.WorldsAreFollowed}
use Rattle.plan_laws.specs.{Owners.owners_of, WorldItems.WorldsAreApart}
use Rattle.comp_meaning.specs.Reads as reads

-- The order is that in which all was read, where each world was read by what the member of its number shows.
pub record OrderIsReadAs (t : Tables) (ms : List Member) (kept : List ℕ) (p : Plan) (b : Beside) (views : ℕ → NumberedView) : Type 0 where
  pub order : OrderIsRead t kept p b views
  pub followed : (m : ℕ) (x : PlannedWorld) (e : world_in p m ≡ Some x) → IsReadAs ms m (order.worlds m x e).scope

-- It is, where the functions of worlds are read.
abbrev pub PlannedOrderIsRead : Type 0
PlannedOrderIsRead = (t : Tables) (h : Homes) (known : ℕ → Fact) (n : ℕ) (ms : List Member) (members : List reads.Member)
    → IsPackageInput t h known n ms members → ViewsAreOrdered t ms → WorldsAreApart ms → WorldsAreFollowed t ms
    → (p : Plan) (planned : PlansWhole t h.packages (home_at h) n ms p) (b : Beside) → b.known ≡ known → b.owners ≡ owners_of ms
    → FunctionsAreRead t planned.kept p b → OrderIsReadAs t ms planned.kept p b (views_read ms)
