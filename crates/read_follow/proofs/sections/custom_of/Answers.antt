use Rattle.read_follow.proofs.{FrontReaders.because_of_bytes, SectionLaws.custom_read, SectionLaws.custom_refused}
use Rattle.read_follow.proofs.sections.custom_of.Goals as goal

pub returns-in-Ok : goal.returns-in-Ok
returns-in-Ok c = custom_read c.args.contents.now c.in-Ok.name.now c.in-Ok.rest.now c.in-Ok.ensures

pub returns-in-Err : goal.returns-in-Err
returns-in-Err c = rw c.refusal_of.ensures (custom_refused c.args.contents.now _ c.in-Err.error c.in-Err.ensures)

pub refusal_of-requires : goal.refusal_of-requires
refusal_of-requires c = because_of_bytes c.in-Err.error _ _ c.in-Err.ensures
