use Rattle.wit_encode.proofs.Imported as lemmas
use Rattle.wit_encode.proofs.laws.imports_grow.Goals as goal

pub returns : goal.returns
returns c = record { nothing = lemmas.nothing_is_imported; aliases = lemmas.aliases_leave_imports; grow = lemmas.imports_grow }
