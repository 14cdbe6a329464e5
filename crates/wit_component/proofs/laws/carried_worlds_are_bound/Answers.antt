use Rattle.wit_component.proofs.SectionLaws.{carried-bound}
use Rattle.wit_component.proofs.laws.carried_worlds_are_bound.Goals as goal

pub returns : goal.returns
returns c = carried-bound
