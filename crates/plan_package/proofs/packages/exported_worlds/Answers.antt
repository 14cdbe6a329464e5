use Rattle.std.proofs.Common.{◌≡◌, ◌∙◌, IfOk, List, ap, map, subst}
use Rattle.wit_model.specs.Text.{Text}
use Rattle.read_rules.specs.declared.scopes.Scope.{Scope}
use Rattle.plan_package.specs.{WholePackages.numbered_labels, WholePackages.numbered_world, WholeWorlds.labelled}
use Rattle.plan_package.proofs.packages.exported_worlds.Goals as goal

pub returns : goal.returns
returns c = subst (λ (ws : List (Text × Scope)). IfOk c.by_order.result (λ all. map numbered_world all.items ≡ numbered_labels 0 ws)) (ap (map labelled) c.deref.ensures.value ∙ c.in_ok-worlds.ensures)
    c.by_order.ensures
