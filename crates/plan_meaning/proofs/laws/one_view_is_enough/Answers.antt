use Rattle.plan_meaning.proofs.Gathering as lemmas
use Rattle.plan_meaning.proofs.laws.one_view_is_enough.Goals as goal

pub returns : goal.returns
returns c = record { mean_one = lemmas.views_mean_one; gather = lemmas.one_view_is_enough }
