use Rattle.text_tokens.proofs.EndFacts.{Kept}
use Rattle.text_tokens.proofs.state.token_end.Given as goal

abbrev pub invariant-loop-at : goal.invariant-loop-at
invariant-loop-at l = Kept l.bytes l.from l.at l.state l.best
