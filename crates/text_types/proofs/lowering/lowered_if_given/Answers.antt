use Rattle.text_types.specs.Scopes.{text_in}
use Rattle.text_types.proofs.FormLaws.{given_is, not_given_is}
use Rattle.text_types.proofs.lowering.lowered_if_given.Goals as goal

pub returns-in_ok-lowered-in-Some-clause-is : goal.returns-in_ok-lowered-in-Some-clause-is
returns-in_ok-lowered-in-Some-clause-is c = given_is (text_in c.args.scope.now) c.in-Some.is c.in_ok-lowered-in-Some.ensures.stands

pub returns-in-None-clause-is : goal.returns-in-None-clause-is
returns-in-None-clause-is c = not_given_is (text_in c.args.scope.now) c.in-None.is
