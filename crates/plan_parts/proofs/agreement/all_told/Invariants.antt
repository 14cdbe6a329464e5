use Rattle.std.proofs.Common.{◌≡◌, ◌||◌, Bool, map, drop}
use Rattle.std.specs.List.{list_any}
use Rattle.wit_model.specs.Text.{Text}
use Rattle.plan_meaning.specs.NumberedViews.{NumberedFunction}
use Rattle.read_rules.specs.Views.{numbered_function}
use Rattle.plan_parts.specs.Agreement.{told_function}
use Rattle.plan_parts.proofs.agreement.all_told.Given as goal

-- those that were added and those that are left are all
abbrev pub invariant-loop-function : goal.invariant-loop-function
invariant-loop-function l = (test : Text × NumberedFunction → Bool)
    → (list_any test (map told_function l.all.keys) || list_any test (map numbered_function (drop l.function-index l.functions))) ≡ list_any test (map numbered_function l.functions)
