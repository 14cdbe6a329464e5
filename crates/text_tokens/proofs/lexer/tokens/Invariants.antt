use Rattle.std.proofs.Common.{◌-◌, length}
use Rattle.text_tokens.proofs.PlaceFacts.{SoFar}
use Rattle.text_tokens.proofs.lexer.tokens.Given as goal

abbrev pub invariant-places : goal.invariant-places
invariant-places l = SoFar l.bytes l.at l.found.items

abbrev pub decreases-places : goal.decreases-places
decreases-places l = length l.bytes - l.at
