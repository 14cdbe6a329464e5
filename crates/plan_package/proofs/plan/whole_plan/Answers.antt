use Rattle.std.proofs.Common.{◌∙◌, ℕ, List, ap, length, map, subst, sym}
use Rattle.std.specs.List.{AllByRecursion}
use Rattle.wit_model.specs.Text.{Text}
use Rattle.plan_build.specs.PlanOf.{stated_type}
use Rattle.read_exports.specs.Members.{homes_alone, numbered_members}
use Rattle.read_rules.specs.declared.scopes.Scope.{Scope}
use Rattle.read_rules.specs.Tables.{numbered_tables}
use Rattle.plan_types.specs.{FirstShown.TellsFirst, Orders.homes_met, PlannedTypes.owner_in, Showings.showings_of_members}
use Rattle.plan_meaning.specs.NumberedMembers.{home_at}
use Rattle.plan_package.specs.Views.{views_of_members}
use Rattle.plan_package.specs.{WholeInterfaces.AreSeen, WholePackages.interfaces_in, WholePackages.IsPlaced, WholeWorlds.worlds_in, WholeWorlds.WorldIsPlaced}
use Rattle.plan_package.proofs.{PlacedLaws.exported_are_placed, PlacedLaws.met_are_seen, WholeLaws.all_may, WholeLaws.all_planned, WholeLaws.plans_whole}
use Rattle.plan_package.proofs.plan.whole_plan.Goals as goal

pub types_of-requires : goal.types_of-requires
types_of-requires c = all_may (numbered_tables c.args.tables.now) c.in_ok-kept.kept (showings_of_members c.args.members.now) c.deref.result.now
    (ap length c.deref.ensures.value ∙ c.in_ok-kept.ensures.many) (subst (TellsFirst (showings_of_members c.args.members.now)) (sym c.deref.ensures.value) c.in_ok-kept.ensures.told) c.in_ok-kept.kept
    (c.requires.kept c.in_ok-kept.kept c.in_ok-kept.ensures.kept).types

pub seen_interfaces-requires-clause-seen : goal.seen_interfaces-requires-clause-seen
seen_interfaces-requires-clause-seen c = subst (AreSeen (views_of_members (numbered_members c.args.members.now))) (sym c.in_ok-places.ensures) (met_are_seen c.args.members.now)

pub worlds_of-requires-clause-placed : goal.worlds_of-requires-clause-placed
worlds_of-requires-clause-placed c = subst (λ (ps : List ℕ). AllByRecursion (λ (w : Text × Scope). WorldIsPlaced ps w.1) (worlds_in c.args.members.now)) (sym c.in_ok-places.ensures) c.requires.placed

pub packages_of-requires : goal.packages_of-requires
packages_of-requires c = subst (λ (ps : List ℕ). AllByRecursion (IsPlaced ps) (interfaces_in c.args.members.now)) (sym c.in_ok-places.ensures) (exported_are_placed c.args.members.now)

pub returns : goal.returns
returns c = plans_whole (numbered_tables c.args.tables.now) c.args.packages.now (home_at (homes_alone c.args.homes.now)) c.args.main c.args.members.now c.in_ok-places.places.keys
    c.in_ok-places.ensures c.in_ok-kept.kept c.in_ok-kept.ensures.kept _ (all_planned (numbered_tables c.args.tables.now) c.in_ok-kept.kept (showings_of_members c.args.members.now) c.deref.result.now
    (ap length c.deref.ensures.value ∙ c.in_ok-kept.ensures.many) (subst (TellsFirst (showings_of_members c.args.members.now)) (sym c.deref.ensures.value) c.in_ok-kept.ensures.told)
    (owner_in c.in_ok-places.places.keys (homes_met (numbered_members c.args.members.now))) c.in_ok-kept.kept (map stated_type c.in_ok-types.types.items) c.in_ok-types.ensures)
    c.in_ok-interfaces.ensures c.in_ok-worlds.ensures c.in_ok-packages.ensures c.in_ok-package_id.ensures
