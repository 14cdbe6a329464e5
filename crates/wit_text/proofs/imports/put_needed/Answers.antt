use Rattle.wit_text.proofs.{PathLaws.imports_put, Walking.on_ok}
use Rattle.wit_text.proofs.imports.put_needed.Goals as goal

pub returns-else-contains_key : goal.returns-else-contains_key
returns-else-contains_key c = record { puts = on_ok _ _ c.put_import.result (λ puts. imports_put puts) c.put_import.ensures }
