use Rattle.std.proofs.Common.{◌≡◌, ◌++◌, map, drop}
use Rattle.read_rules.specs.{Reached.numbered_import, Sights.numbered_sight}
use Rattle.plan_package.specs.Views.{types_alone}
use Rattle.plan_package.proofs.views.add_imports.Given as goal

-- those that were added, and those that are left, are all
abbrev pub invariant-loop-import : goal.invariant-loop-import
invariant-loop-import l = map numbered_sight l.views.items ++ map types_alone (drop l.import-index (map numbered_import l.imports)) ≡ map numbered_sight l.initial.views.items ++ map types_alone
    (map numbered_import l.imports)
