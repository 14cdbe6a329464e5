use Rattle.read_follow.proofs.SectionLaws.{frame_refused, front_refused}
use Rattle.read_follow.proofs.sections.frame_of.Goals as goal

pub returns-in-Err : goal.returns-in-Err
returns-in-Err c = rw c.refusal_of.ensures (frame_refused c.args.bytes.now c.in-Err.error _ c.in-Err.ensures.found)

pub refusal_of-requires : goal.refusal_of-requires
refusal_of-requires c = front_refused c.in-Err.error c.in-Err.ensures.refuses
