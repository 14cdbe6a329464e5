-- The packages and the places of a plan that was made of what was followed are read (WIT.md, "Packages", "Interfaces" and "Worlds").
use Rattle.std.specs.{Prelude.◌≡◌, Prelude.ℕ, Prelude.true, Prelude.List, Prelude.map, List.AllByRecursion}
use Rattle.wit_model.specs.Names.{is_label}
use Rattle.comp_meaning.specs.Rules.{distinct}
use Rattle.read_homes.specs.Homes.{ArePackages}
use Rattle.plan_meaning.specs.{NumberedMembers.Homes, NumberedMembers.home_at, NumberedRules.Fact, NumberedViews.Tables, Plan.Plan, ReadPlaces.PlacesAreRead}
use Rattle.read_exports.specs.declared.members.Member.{Member}
use Rattle.plan_package.specs.PlanWhole.{PlansWhole}
use Rattle.plan_laws.specs.{Owners.owners_of, Whole.IsPackageInput}
use Rattle.comp_meaning.specs.Reads as reads

-- What is exported at the top has labels, none twice.
pub record LabelsStand (ms : List Member) : Type 0 where
  pub labels : AllByRecursion (λ (m : Member). is_label m.label.now ≡ true) ms
  pub apart : distinct (map (λ (m : Member). m.label.now) ms) ≡ true

-- Then packages, interfaces and worlds are read as such, each place under the owner of its own.
abbrev pub WholePlacesAreRead : Type 0
WholePlacesAreRead = (t : Tables) (h : Homes) (known : ℕ → Fact) (n : ℕ) (ms : List Member) (members : List reads.Member)
    → IsPackageInput t h known n ms members → ArePackages h.packages → LabelsStand ms
    → (p : Plan) → PlansWhole t h.packages (home_at h) n ms p → PlacesAreRead t h p (owners_of ms)
