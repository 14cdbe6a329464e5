use Rattle.wit_print.proofs.Given as lemmas
use Rattle.wit_print.proofs.laws.worlds_can_be_given.Goals as goal

pub returns : goal.returns
returns c = record { types = lemmas.world_types_can_be_given; functions = lemmas.world_functions_can_be_given }
