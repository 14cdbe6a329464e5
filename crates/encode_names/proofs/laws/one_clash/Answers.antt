use Rattle.encode_names.proofs.OneClash as lemmas
use Rattle.encode_names.proofs.laws.one_clash.Goals as goal

pub returns-clause-one : goal.returns-clause-one
returns-clause-one c = lemmas.one_clash

pub returns-clause-none : goal.returns-clause-none
returns-clause-none c = lemmas.no_clash_without
