use Rattle.std.proofs.Common.{map}
use Rattle.comp_meaning.specs.Follow.{each}
use Rattle.plan_meaning.specs.NumberedMembers.{imported_view}
use Rattle.read_rules.specs.{Reached.numbered_import, Scopes.numbered_seen}
use Rattle.read_exports.proofs.WalkLaws.{none_left, one_found, one_missing}
use Rattle.read_exports.proofs.interfaces.imported_views.Goals as goal

pub returns-in_default : goal.returns-in_default
returns-in_default c = one_missing imported_view numbered_seen numbered_import c.args.imports.now c.loop-import.import-index _ c.loop-import-test.true c.loop-import.views.items
    (each imported_view (map numbered_seen c.args.imports.now)) c.loop-import.invariant c.imported_view.result (none_left c.imported_view.result c.in_default.not-Some) c.imported_view.ensures

pub loop-import-preserved : goal.loop-import-preserved
loop-import-preserved c = one_found imported_view numbered_seen numbered_import c.args.imports.now c.loop-import.import-index _ c.loop-import-test.true c.loop-import.views.items
    (each imported_view (map numbered_seen c.args.imports.now)) c.loop-import.invariant
    c.imported_view.result c.in-Some.view c.in-Some.is c.imported_view.ensures c.push.new.self.items c.in_ok-push.ensures.items
