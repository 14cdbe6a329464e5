use Rattle.wit_text.proofs.{PathLaws.imports_put, Walking.on_ok}
use Rattle.wit_text.proofs.imports.put_import_of.Goals as goal

pub returns : goal.returns
returns c = on_ok _ _ c.put_import.result (λ puts. imports_put puts) c.put_import.ensures
