use Rattle.std.proofs.Common.{map}
use Rattle.plan_types.specs.Showings.{numbered_showing, showings_of_import}
use Rattle.read_rules.proofs.SightLaws.{all_added, one_added}
use Rattle.plan_types.proofs.showings.add_imports.Goals as goal

pub loop-import-preserved : goal.loop-import-preserved
loop-import-preserved c = one_added showings_of_import c.args.imports.now c.loop-import.import-index (map numbered_showing c.loop-import.all.items) c.loop-import.invariant _ c.loop-import-test.true
    (map numbered_showing c.add_import.new.all.items) c.in_ok-add_import.ensures

pub returns : goal.returns
returns c = all_added showings_of_import c.args.imports.now c.loop-import.import-index (map numbered_showing c.loop-import.all.items) c.loop-import.invariant c.loop-import-test.false
