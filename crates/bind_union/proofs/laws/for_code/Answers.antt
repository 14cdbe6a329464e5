use Rattle.bind_union.proofs.MatchedStand as lemmas
use Rattle.bind_union.proofs.laws.for_code.Goals as goal

pub returns : goal.returns
returns c = record { matched = lemmas.matched_stand; rise = lemmas.numbers_rise; steps = lemmas.steps_keep }
