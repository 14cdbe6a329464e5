use Rattle.read_rules.specs.Reached.{numbered_import}
use Rattle.plan_types.proofs.OrderLaws.{all_joined, one_joined}
use Rattle.plan_types.proofs.orders.add_imports.Goals as goal

pub loop-import-preserved : goal.loop-import-preserved
loop-import-preserved c = one_joined numbered_import (λ i. i.0) c.args.imports.now c.loop-import.import-index _ c.loop-import-test.true c.loop-import.places.keys _ c.loop-import.invariant
    c.add_place.new.places.keys c.in_ok-add_place.ensures

pub returns : goal.returns
returns c = all_joined numbered_import (λ i. i.0) c.args.imports.now c.loop-import.import-index c.loop-import-test.false c.loop-import.places.keys _ c.loop-import.invariant
