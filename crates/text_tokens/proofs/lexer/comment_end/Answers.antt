use Rattle.std.proofs.Common.{sym, ◌∙◌}
use Rattle.text_tokens.proofs.CommentFacts.{comment_here, comment_goes}
use Rattle.text_tokens.proofs.lexer.comment_end.Goals as goal

pub returns-then-bytes-at-eq10-clause-rest : goal.returns-then-bytes-at-eq10-clause-rest
returns-then-bytes-at-eq10-clause-rest c = sym (comment_here c.args.bytes.now c.loop-at.at c.loop-at-test.true c.if-bytes-at-eq10.true) ∙ c.loop-at.invariant

pub loop-at-preserved : goal.loop-at-preserved
loop-at-preserved c = comment_goes c.args.bytes.now c.loop-at.at c.loop-at-test.true c.if-bytes-at-eq10.false ∙ c.loop-at.invariant
