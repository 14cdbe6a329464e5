use Rattle.comp_bytes.proofs.FrameLaws.{front_found, front_none}
use Rattle.comp_bytes.proofs.frames.front_section.Goals as goal

pub returns-in-Ok-clause-stands : goal.returns-in-Ok-clause-stands
returns-in-Ok-clause-stands c = front_found c.args.bytes.now c.in-Ok.found.0.id c.in-Ok.found.0.contents.now c.in-Ok.found.1.now c.in-Ok.ensures.found

pub returns-in-Err-clause-stands : goal.returns-in-Err-clause-stands
returns-in-Err-clause-stands c = front_none c.args.bytes.now c.in-Err.ensures.found
