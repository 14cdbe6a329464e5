use Rattle.comp_bytes.proofs.{Readers.read_ok, Readers.read_err, Readers.read_len, PartLaws.name_law}
use Rattle.comp_bytes.proofs.name.read_name.Goals as goal

pub overflow_sub-result : goal.overflow_sub-result
overflow_sub-result c = read_len name_law c.args.bytes.now c.args.at c.in-Ok.text.now c.in-Ok.rest.now (rw c.split_at.ensures.back at c.in-Ok.ensures)

pub returns-in-Ok : goal.returns-in-Ok
returns-in-Ok c = read_ok name_law c.args.bytes.now c.args.at c.in-Ok.text.now c.in-Ok.rest.now c.requires (rw c.split_at.ensures.back at c.in-Ok.ensures)

pub returns-in-Err : goal.returns-in-Err
returns-in-Err c = (c.requires, read_err name_law c.args.bytes.now c.args.at (rw c.split_at.ensures.back at c.in-Err.ensures))
