use Rattle.comp_read.proofs.Whole.{lengths_fit}
use Rattle.comp_read.proofs.laws.read_lengths_fit.Goals as goal

pub returns : goal.returns
returns c = lengths_fit
