use Rattle.std.proofs.Common.{refl}
use Rattle.read_rules.specs.Reached.{numbered_import}
use Rattle.read_exports.proofs.WalkLaws.{one_pushed}
use Rattle.read_exports.proofs.interfaces.places_of.Goals as goal

pub loop-import-preserved : goal.loop-import-preserved
loop-import-preserved c = one_pushed numbered_import (λ i. i.0) c.args.imports.now c.loop-import.import-index c.loop-import.places.items c.loop-import.invariant _ c.loop-import-test.true
    c.push-in-loop-import.new.self.items _ refl c.in_ok-push-2.ensures.items
