use Rattle.wit_bind.proofs.UnionBound as laws
use Rattle.wit_bind.proofs.laws.united_are_the_union.Goals as goal

pub returns : goal.returns
returns c = laws.united_are_the_union c.merged_is_valid.ensures c.meanings.ensures.bound
