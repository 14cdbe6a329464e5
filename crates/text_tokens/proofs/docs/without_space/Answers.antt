use Rattle.std.proofs.Common.{sym, ap, arith, Some, None}
use Rattle.std.proofs.lemmas.Str.Pattern.{strip_prefix_char}
use Rattle.text_tokens.specs.Documentation.{without_space}
use Rattle.text_tokens.proofs.DocSteps.{no_space}
use Rattle.text_tokens.proofs.docs.without_space.Goals as goal

pub returns-in-Some : goal.returns-in-Some
returns-in-Some c = sym (ap without_space (strip_prefix_char 32 c.args.line.now (Some c.in-Some.rest) c.in-Some.ensures.cases (omega arith)))

pub returns-in-None : goal.returns-in-None
returns-in-None c = no_space c.args.line.now (strip_prefix_char 32 c.args.line.now None c.in-None.ensures.cases (omega arith))
