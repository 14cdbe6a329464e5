use Rattle.std.proofs.Common.{arith}
use Rattle.comp_bytes.proofs.FrameLaws.{custom_found, custom_none}
use Rattle.comp_bytes.proofs.frames.custom_name.Goals as goal

pub returns-in-Ok : goal.returns-in-Ok
returns-in-Ok c = custom_found c.args.contents.now c.in-Ok.name.now c.in-Ok.rest.now c.in-Ok.ensures

pub returns-in-Err : goal.returns-in-Err
returns-in-Err c = (omega arith, custom_none c.args.contents.now c.in-Err.ensures)
