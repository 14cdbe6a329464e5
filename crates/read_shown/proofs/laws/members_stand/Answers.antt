use Rattle.read_shown.proofs.Parts as lemmas
use Rattle.read_shown.proofs.laws.members_stand.Goals as goal

pub returns : goal.returns
returns c = lemmas.members_stand
