-- Whose the names of each place are (WIT.md, "Interfaces" and "Worlds").
use Rattle.std.specs.{Prelude.◌+◌, Prelude.ℕ, Prelude.List, Prelude.length, Option.option_map_or}
use Rattle.wit_model.specs.declared.model.TypeOwner.{TypeOwner}
use Rattle.wit_model.specs.Valid.{as_interface, as_world}
use Rattle.plan_meaning.specs.{KeptOwners.AreOwned, NumberedMembers.Homes, NumberedMembers.home_at, NumberedViews.Tables, Plan.Plan}
use Rattle.read_exports.specs.Members.{numbered_members}
use Rattle.read_exports.specs.declared.members.Member.{Member}
use Rattle.plan_types.specs.{Orders.homes_met, PlannedTypes.number_in}
use Rattle.plan_package.specs.PlanWhole.{PlansWhole, places_in}
use Rattle.plan_laws.specs.ShownNames.{IsInput}
use Rattle.comp_meaning.specs.Reads as reads

-- those of an interface by its number among the places, or of a world by its number among the homes. A place that nothing has been met of has an
-- owner of its own too, which is none of the plan's.
abbrev pub owner_of : List ℕ → List ℕ → ℕ → TypeOwner
owner_of places homes q = option_map_or as_interface (number_in places q) (option_map_or as_world (number_in homes q) (as_interface (length places + q)))

-- the homes of the worlds that are exported
abbrev pub homes_in : List Member → List ℕ
homes_in ms = homes_met (numbered_members ms)

abbrev pub owners_of : List Member → ℕ → TypeOwner
owners_of ms = owner_of (places_in ms) (homes_in ms)

-- Then each type is its owner's, and is seen from there.
abbrev pub PlannedTypesAreOwned : Type 0
PlannedTypesAreOwned = (t : Tables) (h : Homes) (ms : List Member) (members : List reads.Member) → IsInput t h ms members
    → (n : ℕ) (p : Plan) (planned : PlansWhole t h.packages (home_at h) n ms p) → AreOwned t planned.kept p (owners_of ms)
