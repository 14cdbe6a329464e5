-- The worlds of a plan that was made of what was followed show what worlds at the top do, and each view shows the types by which its place is read
-- (WIT.md, "Worlds"; Component Model WIT.md, "Package Format").
use Rattle.std.specs.{Prelude.◌≡◌, Prelude.ℕ, Prelude.List, List.AllByRecursion}
use Rattle.plan_meaning.specs.{NumberedMembers.Homes, NumberedMembers.NumberedMember, NumberedMembers.home_at, NumberedViews.Tables, ReadFunctions.Beside}
use Rattle.plan_meaning.specs.{NumberedRules.Fact, Plan.Plan, ReadPlans.IsReadPlan}
use Rattle.read_exports.specs.Members.{numbered_members}
use Rattle.read_exports.specs.declared.members.Member.{Member}
use Rattle.plan_package.specs.PlanWhole.{PlansWhole}
use Rattle.plan_laws.specs.{FirstViews.ViewsAreOrdered, ViewedInterfaces.views_read, WholeReasonsForeign.IsShownWhole, WholeReasonsForeign.PartIsReached}
use Rattle.plan_laws.specs.{Owners.owners_of, Whole.IsPackageInput}
use Rattle.comp_meaning.specs.Reads as reads

-- each component type of an interface imports what is reached, each once
abbrev pub AreReached : Tables → List Member → Type 0
AreReached t ms = AllByRecursion (λ (m : NumberedMember). PartIsReached t m.part) (numbered_members ms)

abbrev pub WholeIsShown : Type 0
WholeIsShown = (t : Tables) (h : Homes) (known : ℕ → Fact) (n : ℕ) (ms : List Member) (members : List reads.Member) → IsPackageInput t h known n ms members
    → ViewsAreOrdered t ms → AreReached t ms
    → (p : Plan) (planned : PlansWhole t h.packages (home_at h) n ms p) (b : Beside) → b.owners ≡ owners_of ms
    → (read : IsReadPlan t h planned.kept p b (views_read ms)) → IsShownWhole t h planned.kept p b (views_read ms) read ms
