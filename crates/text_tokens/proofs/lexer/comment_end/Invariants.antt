use Rattle.std.proofs.Common.{◌≡◌, drop}
use Rattle.print_grammar.specs.Token.{after_comment}
use Rattle.text_tokens.proofs.lexer.comment_end.Given as goal

abbrev pub invariant-loop-at : goal.invariant-loop-at
invariant-loop-at l = after_comment (drop l.at l.bytes) ≡ after_comment (drop l.from l.bytes)
