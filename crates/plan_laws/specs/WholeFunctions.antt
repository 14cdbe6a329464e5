-- The functions of a whole plan are those that were read, each in its place (WIT.md, "Functions", "Interfaces" and "Worlds").
use Rattle.std.specs.{Prelude.ℕ, Prelude.Bool, Prelude.List, List.AllByRecursion, List.Contains}
use Rattle.wit_model.specs.Text.{Text}
use Rattle.plan_meaning.specs.{NumberedMembers.Homes, NumberedMembers.home_at, NumberedRules.Fact, NumberedViews.Tables, PlanRules.world_functions}
use Rattle.plan_meaning.specs.{Plan.Plan, Plan.PlannedWorld, ReadFunctions.Beside, ReadFunctions.FunctionsAreRead, ReadFunctions.IsReadFunction}
use Rattle.read_rules.specs.declared.scopes.Scope.{Scope}
use Rattle.read_exports.specs.declared.members.Member.{Member}
use Rattle.plan_package.specs.{PlanWhole.PlansWhole, PlanWhole.places_in, WholeWorlds.PlansWorld, WholeWorlds.worlds_in}
use Rattle.plan_laws.specs.{FirstViews.ViewsAreOrdered, Owners.owners_of, WholeReasons.AreShownAlike, WholeTypes.IsRuledInput, WholeTypes.TypesAreWhole}
use Rattle.plan_laws.specs.WorldItems.{WorldsAreApart}
use Rattle.comp_meaning.specs.Reads as reads

-- what is kept beside the tables: what is known of each part, which parts are resources, and the owner of each place
abbrev pub beside_tables : (ℕ → Fact) → (ℕ → Bool) → List Member → Beside
beside_tables known marks ms = record { known = known; marks = marks; owners = owners_of ms }

-- Each function of a world that is planned is read in the world's own place.
abbrev pub WorldFunctionsAreRead : Type 0
WorldFunctionsAreRead = (t : Tables) (h : Homes) (ms : List Member) (members : List reads.Member) → IsRuledInput t h ms members
    → (n : ℕ) (p : Plan) (planned : PlansWhole t h.packages (home_at h) n ms p)
    → (whole : TypesAreWhole t planned.kept ms p) (known : ℕ → Fact) (w : Text × Scope) → Contains (worlds_in ms) w → (x : PlannedWorld)
    → PlansWorld t planned.kept (places_in ms) n w x
    → AllByRecursion (IsReadFunction t planned.kept p (beside_tables known whole.marks.marks ms) (owners_of ms w.1.home)) (world_functions x)

-- So is each function of the plan, where views of a place that show functions show the same ones.
abbrev pub PlannedFunctionsAreRead : Type 0
PlannedFunctionsAreRead = (t : Tables) (h : Homes) (ms : List Member) (members : List reads.Member) → IsRuledInput t h ms members → AreShownAlike ms
    → ViewsAreOrdered t ms → WorldsAreApart ms
    → (n : ℕ) (p : Plan) (planned : PlansWhole t h.packages (home_at h) n ms p) → (whole : TypesAreWhole t planned.kept ms p) (known : ℕ → Fact)
    → FunctionsAreRead t planned.kept p (beside_tables known whole.marks.marks ms)
