use Rattle.text_tokens.proofs.PrintedTokens.{printed_stay}
use Rattle.text_tokens.proofs.laws.printed_tokens_stay.Goals as goal

pub returns : goal.returns
returns c = printed_stay
