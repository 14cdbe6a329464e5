use Rattle.std.proofs.Common.{◌≡◌, ◌++◌, map, drop}
use Rattle.read_rules.specs.{Reached.numbered_import, Sights.numbered_sight}
use Rattle.read_exports.proofs.WalkLaws.{imported_sight}
use Rattle.read_exports.proofs.sights.add_imports.Given as goal

-- those that were added, and those that are left, are all
abbrev pub invariant-loop-import : goal.invariant-loop-import
invariant-loop-import l = map numbered_sight l.sights.items ++ map imported_sight (drop l.import-index (map numbered_import l.imports)) ≡ map numbered_sight l.initial.sights.items
    ++ map imported_sight (map numbered_import l.imports)
