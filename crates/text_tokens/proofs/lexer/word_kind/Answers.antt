use Rattle.text_tokens.proofs.KindFacts.{word_key, word_plain}
use Rattle.text_tokens.proofs.lexer.word_kind.Goals as goal

pub returns-in-Some : goal.returns-in-Some
returns-in-Some c = word_key c.args.text.now c.in-Some.keyword c.in-Some.ensures

pub returns-in-None : goal.returns-in-None
returns-in-None c = word_plain c.args.text.now c.in-None.ensures
