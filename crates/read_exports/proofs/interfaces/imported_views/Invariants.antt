use Rattle.std.proofs.Common.{◌≡◌, ◌++◌, map, drop, option_map}
use Rattle.comp_meaning.specs.Follow.{each}
use Rattle.plan_meaning.specs.NumberedMembers.{imported_view}
use Rattle.read_rules.specs.{Reached.numbered_import, Scopes.numbered_seen}
use Rattle.read_exports.proofs.interfaces.imported_views.Given as goal

-- the views so far, before those of the imports that are left
abbrev pub invariant-loop-import : goal.invariant-loop-import
invariant-loop-import l =
    option_map (λ vs. map numbered_import l.views.items ++ vs) (each imported_view (drop l.import-index (map numbered_seen l.imports))) ≡ each imported_view (map numbered_seen l.imports)
