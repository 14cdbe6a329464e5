use Rattle.std.proofs.Common.{map, refl}
use Rattle.read_rules.specs.{Reached.numbered_import, Sights.numbered_sight}
use Rattle.read_exports.proofs.WalkLaws.{all_mapped, imported_sight, one_mapped}
use Rattle.read_exports.proofs.sights.add_imports.Goals as goal

pub loop-import-preserved : goal.loop-import-preserved
loop-import-preserved c = one_mapped numbered_import imported_sight c.args.imports.now c.loop-import.import-index (map numbered_sight c.loop-import.sights.items) c.loop-import.invariant _
    c.loop-import-test.true numbered_sight c.loop-import.sights.items _ c.push.new.self.items refl refl c.in_ok-push.ensures.items

pub returns : goal.returns
returns c = all_mapped numbered_import imported_sight c.args.imports.now c.loop-import.import-index (map numbered_sight c.loop-import.sights.items) c.loop-import.invariant c.loop-import-test.false
