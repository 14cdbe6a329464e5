use Rattle.witc_read.specs.declared.packages.NamedText.{NamedText}
use Rattle.witc_read.proofs.Troubles.{no-text-at}
use Rattle.witc_read.proofs.packages.texts_of.Goals as goal

pub returns-in-None-clause-err : goal.returns-in-None-clause-err
returns-in-None-clause-err c =
    λ own. no-text-at (λ (t : NamedText). t.bytes.now) c.args.texts.now c.loop-number.number _ c.loop-number-test.true c.in-None.ensures c.loop-number.invariant.1
