-- The types of a whole plan are those that were read, and its owners stand for the places (WIT.md, "Types", "Interfaces" and "Worlds").
use Rattle.std.specs.Prelude.{◌≡◌, ◌⊎◌, ℕ, true, List, None}
use Rattle.std.specs.List.{Contains}
use Rattle.read_shown.specs.Kinds.{NamesHaveKinds}
use Rattle.plan_meaning.specs.{KeptTypes.TypesAreKept, NumberedMembers.Homes, NumberedMembers.home_at, NumberedMembers.sights_of_members, NumberedRules.Fact}
use Rattle.plan_meaning.specs.{NumberedViews.Tables, NumberedViews.agree_in_numbers, NumberedViews.path_at, NumberedViews.place_at, Plan.Plan, Plan.place_in}
use Rattle.read_exports.specs.Members.{numbered_members}
use Rattle.read_exports.specs.declared.members.Member.{Member}
use Rattle.plan_types.specs.Showings.{showings_of_members, signatures_of_members}
use Rattle.plan_type_laws.specs.{FormsObeyed.LengthsFit, ShownMarks.ArePlaced, ShownMarks.MarksStand}
use Rattle.plan_package.specs.PlanWhole.{PlansWhole, places_in}
use Rattle.plan_laws.specs.{Owners.homes_in, Owners.owners_of, ShownNames.IsInput, ShownRules.RulesAreObeyed, Whole.IsPackageInput}
use Rattle.comp_meaning.specs.Reads as reads
use Rattle.plan_meaning.specs.KeptResources as resources

-- ---- what was followed, under the rules

-- What was followed obeys the rules: the views of each interface agree, and each name is a resource wherever it is met, or nowhere. Each
-- world and each inline interface has a place of its own, and only a path has a home.
pub record IsRuledInput (t : Tables) (h : Homes) (ms : List Member) (members : List reads.Member) : Type 0 where
  pub input : IsInput t h ms members
  pub alone : (q : ℕ) → path_at t q ≡ None → home_at h q ≡ None
  pub kinds : NamesHaveKinds members
  pub placed : ArePlaced t ms
  pub lengths : LengthsFit t
  pub rules : RulesAreObeyed t ms
  pub agree : agree_in_numbers (sights_of_members t (numbered_members ms)) ≡ true

-- A package that was followed is such.
abbrev pub PackagesAreRuled : Type 0
PackagesAreRuled = (t : Tables) (h : Homes) (known : ℕ → Fact) (n : ℕ) (ms : List Member) (members : List reads.Member) → IsPackageInput t h known n ms members
    → IsRuledInput t h ms members

-- ---- the plan's types

-- The types are those of the shapes that are kept, the marks of what is shown tell which of them are resources, and the owner of each place that is
-- met stands for it in the plan.
pub record TypesAreWhole (t : Tables) (kept : List ℕ) (ms : List Member) (p : Plan) : Type 0 where
  pub types : TypesAreKept t kept p
  pub marks : MarksStand t (showings_of_members ms) (signatures_of_members ms)
  pub marked : resources.AreMarked t kept p marks.marks
  pub places : (q : ℕ) → Contains (places_in ms) q ⊎ Contains (homes_in ms) q → place_in p (owners_of ms q) ≡ place_at t q

-- So are those of the plan of what obeys the rules.
abbrev pub PlannedTypesAreWhole : Type 0
PlannedTypesAreWhole = (t : Tables) (h : Homes) (ms : List Member) (members : List reads.Member) → IsRuledInput t h ms members
    → (n : ℕ) (p : Plan) (planned : PlansWhole t h.packages (home_at h) n ms p) → TypesAreWhole t planned.kept ms p
