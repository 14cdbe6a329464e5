use Rattle.comp_read.proofs.Followed.{read_worlds_are_followed}
use Rattle.comp_read.proofs.laws.read_worlds_are_followed.Goals as goal

pub returns : goal.returns
returns c = read_worlds_are_followed
