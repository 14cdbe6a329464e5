use Rattle.comp_bytes.proofs.NamesRead.{name_found, no_name}
use Rattle.comp_bytes.proofs.name.name_of.Goals as goal

pub returns-in-Ok : goal.returns-in-Ok
returns-in-Ok c = rw c.in-Ok.ensures.cases.0 (name_found c.args.bytes.now c.in_ok-contents.contents.now c.in_ok-contents.rest.now c.in_ok-contents.ensures c.in-Ok.ensures.cases.1)

pub returns-in-Err : goal.returns-in-Err
returns-in-Err c = no_name c.args.bytes.now c.in_ok-contents.contents.now c.in_ok-contents.rest.now c.in_ok-contents.ensures c.in-Err.ensures.cases.0
