use Rattle.std.proofs.Common.{◌∙◌, ℕ, IfOk, List, ap, map, subst, sym}
use Rattle.std.specs.List.{AllByRecursion, AllZip}
use Rattle.wit_model.specs.Text.{Text}
use Rattle.plan_build.specs.PlanOf.{stated_world}
use Rattle.read_rules.specs.declared.scopes.Scope.{Scope}
use Rattle.read_rules.specs.Tables.{numbered_tables}
use Rattle.plan_package.specs.WholeWorlds.{labelled, PlansWorld, WorldIsKept, WorldIsPlaced}
use Rattle.plan_package.proofs.worlds.worlds_of.Goals as goal

pub all_worlds-requires-clause-kept : goal.all_worlds-requires-clause-kept
all_worlds-requires-clause-kept c = subst (AllByRecursion (λ (w : Text × Scope). WorldIsKept (numbered_tables c.args.tables.now) c.args.kept.now w.1))
    (sym (ap (map labelled) c.deref.ensures.value ∙ c.in_ok-worlds.ensures)) c.requires.kept

pub all_worlds-requires-clause-placed : goal.all_worlds-requires-clause-placed
all_worlds-requires-clause-placed c =
    subst (AllByRecursion (λ (w : Text × Scope). WorldIsPlaced c.args.places.now.keys w.1)) (sym (ap (map labelled) c.deref.ensures.value ∙ c.in_ok-worlds.ensures)) c.requires.placed

pub returns : goal.returns
returns c = subst (λ (ws : List (Text × Scope)). IfOk c.all_worlds.result (λ all. AllZip (PlansWorld (numbered_tables c.args.tables.now) c.args.kept.now c.args.places.now.keys c.args.main) ws
    (map stated_world all.items))) (ap (map labelled) c.deref.ensures.value ∙ c.in_ok-worlds.ensures)
    (subst (λ (m : ℕ). IfOk c.all_worlds.result (λ all. AllZip (PlansWorld (numbered_tables c.args.tables.now) c.args.kept.now c.args.places.now.keys m) (map labelled c.deref.result.now)
    (map stated_world all.items))) c.in_ok-main.ensures c.all_worlds.ensures)
