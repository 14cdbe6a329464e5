use Rattle.std.proofs.Common.{◌≡◌, ◌++◌, ◌∷◌, map, drop}
use Rattle.read_rules.specs.Reached.{numbered_import}
use Rattle.read_exports.proofs.interfaces.places_of.Given as goal

-- those that were added, and those that are left, are all
abbrev pub invariant-loop-import : goal.invariant-loop-import
invariant-loop-import l = l.places.items ++ map (λ i. i.0) (drop l.import-index (map numbered_import l.imports)) ≡ l.exported ∷ map (λ i. i.0) (map numbered_import l.imports)
