use Rattle.plan_meaning.proofs.NumberedWorlds as lemmas
use Rattle.plan_meaning.proofs.laws.uses_in_numbers.Goals as goal

pub returns : goal.returns
returns c = record { views = lemmas.uses_in_numbers; reached = lemmas.reached_in_numbers; once = lemmas.paths_in_numbers }
