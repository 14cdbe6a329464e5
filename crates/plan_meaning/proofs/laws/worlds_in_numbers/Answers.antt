use Rattle.plan_meaning.proofs.NumberedWorlds as lemmas
use Rattle.plan_meaning.proofs.laws.worlds_in_numbers.Goals as goal

pub returns : goal.returns
returns c = record { obey = lemmas.worlds_in_numbers; sights = lemmas.sights_in_numbers }
