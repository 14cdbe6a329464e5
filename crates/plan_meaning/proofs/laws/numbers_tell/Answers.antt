use Rattle.plan_meaning.proofs.NumberedViews.{each_number_tells}
use Rattle.plan_meaning.proofs.laws.numbers_tell.Goals as goal

pub returns : goal.returns
returns c = each_number_tells
