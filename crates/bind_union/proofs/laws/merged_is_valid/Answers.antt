use Rattle.bind_union.proofs.Valid as lemmas
use Rattle.bind_union.proofs.laws.merged_is_valid.Goals as goal

pub returns : goal.returns
returns c = lemmas.merged_is_valid
