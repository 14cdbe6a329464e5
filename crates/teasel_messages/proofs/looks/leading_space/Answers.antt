use native.Mathlib.Omega.{arith}
use Rattle.std.proofs.Common.{◌∙◌, sym}
use Rattle.teasel_messages.proofs.Blanks.{all-gone, blank-goes, letter-stays}
use Rattle.teasel_messages.proofs.looks.leading_space.Goals as goal

pub loop-count-preserved : goal.loop-count-preserved
loop-count-preserved c =
    (omega (arith, c.loop-count-test.true), blank-goes c.args.bytes.now c.loop-count.count c.loop-count-test.true (sym c.is_blank.ensures ∙ c.if-is_blank.true) ∙ c.loop-count.invariant.1)

pub returns-else-is_blank-clause-behind : goal.returns-else-is_blank-clause-behind
returns-else-is_blank-clause-behind c =
    letter-stays c.args.bytes.now c.loop-count.count c.loop-count-test.true (sym c.is_blank.ensures ∙ c.if-is_blank.false) ∙ c.loop-count.invariant.1

pub returns-after-loop-count-clause-behind : goal.returns-after-loop-count-clause-behind
returns-after-loop-count-clause-behind c = all-gone c.args.bytes.now c.loop-count.count (omega (arith, c.loop-count-test.false)) ∙ c.loop-count.invariant.1
