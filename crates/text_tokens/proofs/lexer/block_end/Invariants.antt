use Rattle.std.proofs.Common.{length, ◌-◌}
use Rattle.text_tokens.proofs.CommentFacts.{OpenBlock}
use Rattle.text_tokens.proofs.lexer.block_end.Given as goal

abbrev pub invariant-bytes : goal.invariant-bytes
invariant-bytes l = OpenBlock l.bytes l.from l.at l.inner

abbrev pub decreases-bytes : goal.decreases-bytes
decreases-bytes l = length l.bytes - l.at
