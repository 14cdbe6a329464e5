use Rattle.comp_read.proofs.Followed.{read_labels_stand}
use Rattle.comp_read.proofs.laws.read_labels_stand.Goals as goal

pub returns : goal.returns
returns c = read_labels_stand
