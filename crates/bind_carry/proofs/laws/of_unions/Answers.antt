use Rattle.bind_carry.proofs.{Addable.unions_are_addable, FirstOfUnion.unions_have_the_first, FirstOfUnion.unions_have_the_second}
use Rattle.bind_carry.proofs.laws.of_unions.Goals as goal

pub returns-clause-first : goal.returns-clause-first
returns-clause-first c = unions_have_the_first

pub returns-clause-second : goal.returns-clause-second
returns-clause-second c = unions_have_the_second

pub returns-clause-addable : goal.returns-clause-addable
returns-clause-addable c = unions_are_addable
