use Rattle.print_grammar.proofs.GrammarUnique.{one_reading}
use Rattle.print_grammar.proofs.laws.one_reading.Goals as goal

pub returns : goal.returns
returns c = one_reading
