use Rattle.wit_metadata.proofs.ModuleLaws.{no-data}
use Rattle.wit_metadata.proofs.modules.data_of.Goals as goal

pub returns-in-Err : goal.returns-in-Err
returns-in-Err c = rw c.without_data.ensures (no-data c.args.contents.now c.in-Err.error c.in-Err.ensures)
