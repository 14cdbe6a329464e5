-- Why what stands in a plan that was made of what was followed is there (Component Model WIT.md, "Package Format").
use Rattle.std.specs.Prelude.{◌≡◌, ◌<◌, ◌⊎◌, ℕ, true, List, length}
use Rattle.std.specs.List.{Contains}
use Rattle.wit_model.specs.Text.{Text}
use Rattle.read_homes.specs.Homes.{HasPlace}
use Rattle.plan_meaning.specs.{NumberedMembers.Homes, NumberedMembers.home_at, NumberedWorlds.HasPath, ReadFunctions.Beside, ReadFunctions.FunctionsAreRead}
use Rattle.plan_meaning.specs.NumberedRules.{Fact}
use Rattle.plan_meaning.specs.{NumberedViews.NumberedFunction, NumberedViews.NumberedSight, NumberedViews.Tables, Plan.Plan, ReadWholes.IsKeptForReasons}
use Rattle.read_exports.specs.Members.{numbered_members}
use Rattle.read_exports.specs.declared.members.Member.{Member}
use Rattle.plan_types.specs.Showings.{NumberedShowing, showings_of_members}
use Rattle.plan_package.specs.{PlanWhole.PlansWhole, PlanWhole.places_in, Views.views_of_members}
use Rattle.plan_laws.specs.{Owners.owners_of, Whole.IsPackageInput}
use Rattle.comp_meaning.specs.Reads as reads

-- A type is declared as one and the same wherever it is shown, and views of a place that show functions show the same ones.
pub record AreShownAlike (ms : List Member) : Type 0 where
  pub types : (y z : NumberedShowing) → Contains (showings_of_members ms) y → Contains (showings_of_members ms) z → y.part ≡ z.part → y.declared ≡ z.declared
  pub functions : (r s : NumberedSight) → Contains (views_of_members (numbered_members ms)) r → Contains (views_of_members (numbered_members ms)) s
      → r.place ≡ s.place → r.whole ≡ true → s.whole ≡ true
      → (f : Text × NumberedFunction) → Contains r.view.functions f → (g : Text × NumberedFunction) × Contains s.view.functions g
      × (g.1.signature ≡ f.1.signature)

-- Each package but the one of this number is that of some place, and each place under a path is met.
pub record HavePlaces (t : Tables) (h : Homes) (n : ℕ) (ms : List Member) : Type 0 where
  pub packages : (c : ℕ) → c < length h.packages → (c ≡ n) ⊎ HasPlace h.homes c
  pub met : (q : ℕ) → HasPath t q → Contains (places_in ms) q

-- Then an unnamed type is there as a part of another type or of a function, where the functions are read, and a package for its interfaces.
abbrev pub WholeIsKeptForReasons : Type 0
WholeIsKeptForReasons = (t : Tables) (h : Homes) (known : ℕ → Fact) (n : ℕ) (ms : List Member) (members : List reads.Member)
    → IsPackageInput t h known n ms members → AreShownAlike ms → HavePlaces t h n ms
    → (p : Plan) (planned : PlansWhole t h.packages (home_at h) n ms p) (b : Beside) → b.owners ≡ owners_of ms → FunctionsAreRead t planned.kept p b
    → IsKeptForReasons t h planned.kept p b
