use Rattle.text_tokens.proofs.PlaceFacts.{begins_here, unknown_here}
use Rattle.text_tokens.proofs.lexer.token_front.Goals as goal

pub returns-in-Some : goal.returns-in-Some
returns-in-Some c =
    begins_here c.args.bytes.now c.args.at c.in-Some.end c.kind_of.result c.requires.no_gap c.in-Some.ensures.longest c.in-Some.ensures.further c.in-Some.ensures.within c.kind_of.ensures

pub returns-in-None : goal.returns-in-None
returns-in-None c = unknown_here c.args.bytes.now c.args.at c.requires.no_gap c.in-None.ensures.longest c.requires.within
