use Rattle.comp_read.proofs.Whole.{read_names_have_kinds}
use Rattle.comp_read.proofs.laws.read_names_have_kinds.Goals as goal

pub returns : goal.returns
returns c = read_names_have_kinds
