use Rattle.comp_read.proofs.Inputs.{read_firsts_rise}
use Rattle.comp_read.proofs.laws.read_firsts_rise.Goals as goal

pub returns : goal.returns
returns c = read_firsts_rise
