use Rattle.std.proofs.Common.{◌≡◌, ◌||◌, Bool, map, drop}
use Rattle.std.specs.List.{list_any}
use Rattle.wit_model.specs.Text.{Text}
use Rattle.plan_meaning.specs.NumberedRules.{resources_of}
use Rattle.read_rules.specs.{Tables.now_of, Views.numbered_type}
use Rattle.read_rules.proofs.resources.resources_of.Given as goal

-- those that were seen and those that are left are all
abbrev pub invariant-loop-ty : goal.invariant-loop-ty
invariant-loop-ty l = (test : Text → Bool) → (list_any test (map now_of l.resources.keys) || list_any test (resources_of (map numbered_type (drop l.ty-index l.types)))) ≡ list_any test
    (resources_of (map numbered_type l.types))
