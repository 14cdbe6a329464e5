-- The interfaces of a plan are read by the first view of each place (WIT.md, "Interfaces").
use Rattle.std.specs.Prelude.{◌≡◌, ℕ, true, List, [], None}
use Rattle.std.specs.Option.{option_map_or}
use Rattle.plan_meaning.specs.{GatheredPlan.functions_seen, ReadFunctions.Beside}
use Rattle.plan_meaning.specs.{NumberedMembers.Homes, NumberedMembers.home_at, NumberedMembers.sights_of_members, Plan.Plan, ReadOrder.InterfacesAreViewed}
use Rattle.plan_meaning.specs.NumberedViews.{NumberedSight, NumberedView, Tables, agree_in_numbers, first_at, path_at}
use Rattle.read_exports.specs.Members.{numbered_members}
use Rattle.read_exports.specs.declared.members.Member.{Member}
use Rattle.plan_package.specs.{PlanWhole.PlansWhole, Views.views_of_members}
use Rattle.plan_laws.specs.{FirstViews.ViewsAreOrdered, Owners.owners_of, ShownNames.IsInput}
use Rattle.comp_meaning.specs.Reads as reads

-- what a place is read by: the types of its first view, and the functions of the first that shows some
abbrev pub view_read : List NumberedSight → ℕ → NumberedView
view_read seen q = record { types = option_map_or (λ (s : NumberedSight). s.view.types) (first_at q seen) []; functions = functions_seen q seen }

abbrev pub views_read : List Member → ℕ → NumberedView
views_read ms q = view_read (views_of_members (numbered_members ms)) q

-- Each interface of the plan is read so.
abbrev pub PlannedInterfacesAreViewed : Type 0
PlannedInterfacesAreViewed = (t : Tables) (h : Homes) (ms : List Member) (members : List reads.Member) → IsInput t h ms members
    → ((q : ℕ) → path_at t q ≡ None → home_at h q ≡ None) → agree_in_numbers (sights_of_members t (numbered_members ms)) ≡ true → ViewsAreOrdered t ms
    → (n : ℕ) (p : Plan) (planned : PlansWhole t h.packages (home_at h) n ms p) → (b : Beside) → b.owners ≡ owners_of ms
    → InterfacesAreViewed t planned.kept p b (views_read ms)
