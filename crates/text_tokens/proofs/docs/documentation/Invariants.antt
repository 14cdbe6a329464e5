use Rattle.std.proofs.Common.{◌-◌, length, string_bytes}
use Rattle.text_tokens.proofs.DocGaps.{Gathers}
use Rattle.text_tokens.proofs.docs.documentation.Given as goal

abbrev pub invariant-pieces : goal.invariant-pieces
invariant-pieces l = Gathers l.gap l.at (string_bytes l.lines)

abbrev pub decreases-pieces : goal.decreases-pieces
decreases-pieces l = length l.gap - l.at
