use Rattle.plan_meaning.proofs.NumberedMembers as lemmas
use Rattle.plan_meaning.proofs.laws.interfaces_in_numbers.Goals as goal

pub returns : goal.returns
returns c = record { imports = lemmas.imports_in_numbers; export = lemmas.export_in_numbers }
