-- What the worlds of a plan import and export, beside functions, is as it was followed (WIT.md, "Worlds").
use Rattle.std.specs.Prelude.{◌≡◌, ◌⊎◌, ◌+◌, ℕ, true, List, Option, Some, slice_get}
use Rattle.std.specs.List.{Contains}
use Rattle.wit_model.specs.{Text.Text, Valid.as_world}
use Rattle.plan_meaning.specs.{GatheredPlan.TypeBecomes, NumberedViews.Tables, NumberedViews.agree_in_numbers, ReadFunctions.Beside, ReadWorlds.IsInterfaceOf}
use Rattle.plan_meaning.specs.{NumberedMembers.Homes, NumberedMembers.home_at, NumberedMembers.sights_of_members, NumberedWorlds.place_of_key, Plan.Plan}
use Rattle.plan_meaning.specs.{Renumbering.IsPart, Shapes.named_shape}
use Rattle.read_exports.specs.Members.{numbered_members}
use Rattle.read_exports.specs.declared.members.Member.{Member}
use Rattle.read_rules.specs.{Scopes.numbered_key, Tables.given_text, Views.numbered_view}
use Rattle.read_rules.specs.declared.{scopes.InstanceKey.InstanceKey, scopes.Scope.Scope, scopes.Seen.Seen, views.View.View}
use Rattle.plan_types.specs.PlannedTypes.{number_in}
use Rattle.plan_package.specs.{PlanWhole.PlansWhole, PlanWhole.places_in, WholeWorlds.worlds_in}
use Rattle.plan_laws.specs.{FirstViews.ViewsAreOrdered, Owners.owners_of, ShownNames.IsInput, ViewedInterfaces.views_read}
use Rattle.comp_meaning.specs.Reads as reads
use Rattle.read_rules.specs.declared.scopes.Shown.TheVariants as shown

-- no two worlds have one place
abbrev pub WorldsAreApart : List Member → Type 0
WorldsAreApart ms = (i j : ℕ) (w v : Text × Scope) → slice_get (worlds_in ms) i ≡ Some w → slice_get (worlds_in ms) j ≡ Some v → w.1.home ≡ v.1.home → i ≡ j

-- no two imports of a world stand under one key
abbrev pub KeysAreApart : Scope → Type 0
KeysAreApart w = (i j : ℕ) (a b : Seen) → slice_get w.imports.now i ≡ Some a → slice_get w.imports.now j ≡ Some b → a.key.now ≡ b.key.now → i ≡ j

module _ (t : Tables) (ms : List Member) (kept : List ℕ) (p : Plan) (b : Beside) where
  -- an instance of the world of this number is one of the interface of its place
  abbrev pub InstancesAreRead : ℕ → Scope → Type 0
  InstancesAreRead m w = (s : Seen) → Contains w.imports.now s ⊎ Contains w.exports.now s → (key : InstanceKey) (v : View) → s.shown ≡ shown.Instance key v
      → (u : ℕ) → number_in (places_in ms) (place_of_key (numbered_key key)) ≡ Some u
      → IsInterfaceOf t kept p b (views_read ms) (as_world m) w.home (place_of_key (numbered_key key)) (numbered_view v) u

  -- a type that the world imports is what it is declared as
  abbrev pub TypesAreRead : Scope → Type 0
  TypesAreRead w = (s : Seen) → Contains w.imports.now s → (part : ℕ) (d : Option ℕ) → s.shown ≡ shown.Declares part d → (n : ℕ) → IsPart kept part (14 + n)
      → (k : ℕ) × (slice_get kept n ≡ Some k) × (slice_get t.shapes k ≡ Some (named_shape w.home s.key.now))
      × TypeBecomes t kept p d (given_text s.external_id) n

-- Each world has its place, and imports and exports instances of the plan's interfaces and types of its own.
pub record WorldIsPlanned (t : Tables) (ms : List Member) (kept : List ℕ) (p : Plan) (b : Beside) (m : ℕ) (w : Scope) : Type 0 where
  pub owned : b.owners w.home ≡ as_world m
  pub instances : InstancesAreRead t ms kept p b m w
  pub types : KeysAreApart w → TypesAreRead t ms kept p b w

abbrev pub PlannedWorldsStand : Type 0
PlannedWorldsStand = (t : Tables) (h : Homes) (ms : List Member) (members : List reads.Member) → IsInput t h ms members
    → agree_in_numbers (sights_of_members t (numbered_members ms)) ≡ true → ViewsAreOrdered t ms → WorldsAreApart ms
    → (n : ℕ) (p : Plan) (planned : PlansWhole t h.packages (home_at h) n ms p) → (b : Beside) → b.owners ≡ owners_of ms → (m : ℕ) (w : Text × Scope)
    → slice_get (worlds_in ms) m ≡ Some w → WorldIsPlanned t ms planned.kept p b m w.1
