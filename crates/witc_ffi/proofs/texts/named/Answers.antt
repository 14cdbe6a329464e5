use Rattle.witc_read.proofs.Troubles.{no-text-at}
use Rattle.witc_ffi.specs.declared.texts.Text.{Text}
use Rattle.witc_ffi.proofs.texts.named.Goals as goal

pub returns-in-None : goal.returns-in-None
returns-in-None c =
    no-text-at (λ (t : Text). t.name.now) c.args.texts.now c.loop-number.number _ c.loop-number-test.true c.in-None.ensures c.loop-number.invariant.2
