-- The worlds of a plan.
use Rattle.std.proofs.Common.{rules as std_rules, ◌≡◌, ℕ, List, [], ◌∷◌, Option, Result, Ok, Err, IfOk}
use Rattle.std.specs.List.{AllByRecursion, flat_map}
use Rattle.wit_model.specs.declared.model.TypeId.{TypeId}
use Rattle.wit_model.specs.Text.{Text}
use Rattle.plan_build.specs.declared.plan.{PlannedItem.PlannedItem, PlannedKey.PlannedKey}
use Rattle.plan_build.specs.PlanOf.{stated_entry}
use Rattle.plan_parts.specs.Interfaces.{IsKeptSlot}
use Rattle.read_rules.specs.declared.{scopes.InstanceKey.InstanceKey, scopes.Seen.Seen, views.View.View}
use Rattle.read_rules.specs.{Scopes.numbered_key, Tables.given_text}
use Rattle.plan_meaning.specs.NumberedViews.{Tables}
use Rattle.plan_package.specs.WholeWorlds.{types_seen, PlansInstance, PlansItem, SeenIsKept, an_instance}
use Rattle.read_rules.specs.declared.scopes.Shown.TheVariants as shown

module _ (t : Tables) (kept : List ℕ) where
  pub instance_planned : {E : Type 0} (places : List ℕ) (find : Text → Option TypeId) (s : Seen) (r : Result (PlannedKey × PlannedItem) E) (key : InstanceKey) (v : View)
      → s.shown ≡ shown.Instance key v
      → IfOk r (λ e. PlansInstance places (numbered_key key) (given_text s.external_id) (stated_entry e)) → IfOk r (λ e. PlansItem t kept places find s (stated_entry e))
  instance_planned places find s (Ok e) key v is planned = an_instance key v is planned
  instance_planned places find s (Err e) key v is planned = tt

  -- the types that are imported are kept
  pub types_kept : (xs : List Seen) → AllByRecursion (SeenIsKept t kept) xs → AllByRecursion (IsKeptSlot kept) (flat_map types_seen xs)
  types_kept [] all = tt
  types_kept (s ∷ rest) all = search (std_rules, types_kept rest all.1)
