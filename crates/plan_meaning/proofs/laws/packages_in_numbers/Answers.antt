use Rattle.plan_meaning.proofs.NumberedMembers as lemmas
use Rattle.plan_meaning.proofs.laws.packages_in_numbers.Goals as goal

pub returns : goal.returns
returns c = record { package_ = lemmas.packages_in_numbers; world = lemmas.one_world_in_numbers }
