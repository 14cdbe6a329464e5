use Rattle.std.proofs.Common.{sym, ◌∙◌}
use Rattle.text_tokens.proofs.KindFacts.{digits_kind, version_kind}
use Rattle.text_tokens.proofs.lexer.number_kind.Goals as goal

pub returns-then-is_numeric : goal.returns-then-is_numeric
returns-then-is_numeric c = λ token e. digits_kind c.args.text.now token (sym c.is_numeric.ensures ∙ c.if-is_numeric.true) e

pub returns-else-is_numeric : goal.returns-else-is_numeric
returns-else-is_numeric c = λ token e. version_kind c.args.text.now token (sym c.is_numeric.ensures ∙ c.if-is_numeric.false) e
