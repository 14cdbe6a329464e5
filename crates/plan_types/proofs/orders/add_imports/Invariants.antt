use Rattle.std.proofs.Common.{◌≡◌, map, drop}
use Rattle.read_rules.specs.Reached.{numbered_import}
use Rattle.plan_types.specs.Orders.{joined_all}
use Rattle.plan_types.proofs.orders.add_imports.Given as goal

-- those so far, with those that are left, are all
abbrev pub invariant-loop-import : goal.invariant-loop-import
invariant-loop-import l = joined_all l.places.keys (map (λ i. i.0) (drop l.import-index (map numbered_import l.imports))) ≡ joined_all l.initial.places.keys
    (map (λ i. i.0) (map numbered_import l.imports))
