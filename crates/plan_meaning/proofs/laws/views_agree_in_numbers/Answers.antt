use Rattle.plan_meaning.proofs.NumberedViews as lemmas
use Rattle.plan_meaning.proofs.laws.views_agree_in_numbers.Goals as goal

pub returns : goal.returns
returns c = record { each = lemmas.views_agree_in_numbers; first = lemmas.first_views_agree_in_numbers }
