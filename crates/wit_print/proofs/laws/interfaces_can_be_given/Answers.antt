use Rattle.wit_print.proofs.Given as lemmas
use Rattle.wit_print.proofs.laws.interfaces_can_be_given.Goals as goal

pub returns : goal.returns
returns c = record { types = lemmas.types_can_be_given; functions = lemmas.functions_can_be_given }
