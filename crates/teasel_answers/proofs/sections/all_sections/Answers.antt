use Rattle.teasel_answers.specs.Refusals.{all_left, no_front, one_less}
use Rattle.teasel_answers.proofs.sections.all_sections.Goals as goal

pub loop-init : goal.loop-init
loop-init c = (c.in_ok-rest.rest.now, c.in_ok-rest.ensures.ok, all_left)

pub returns-in-Err : goal.returns-in-Err
returns-in-Err c = λ other. no_front c.loop.invariant.0 c.loop.rest.now c.loop.invariant.1 c.loop.invariant.2 (c.in-Err.ensures.refused other)

pub loop-preserved : goal.loop-preserved
loop-preserved c = (c.loop.invariant.0, c.loop.invariant.1, one_less c.in-Ok.ensures.ok.0 c.loop.invariant.2 c.in-Ok.ensures.ok.1)
