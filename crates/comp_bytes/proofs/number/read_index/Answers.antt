use Rattle.comp_bytes.proofs.{Readers.read_ok, Readers.read_err, Readers.read_len, FormLaws.type_index_law}
use Rattle.comp_bytes.proofs.number.read_index.Goals as goal

pub overflow_sub-result : goal.overflow_sub-result
overflow_sub-result c = read_len type_index_law c.args.bytes.now c.args.at c.in-Ok.number c.in-Ok.rest.now (rw c.split_at.ensures.back at c.in-Ok.ensures)

pub returns-in-Ok : goal.returns-in-Ok
returns-in-Ok c = read_ok type_index_law c.args.bytes.now c.args.at c.in-Ok.number c.in-Ok.rest.now c.requires (rw c.split_at.ensures.back at c.in-Ok.ensures)

pub returns-in-Err : goal.returns-in-Err
returns-in-Err c = (c.requires, read_err type_index_law c.args.bytes.now c.args.at (rw c.split_at.ensures.back at c.in-Err.ensures))
