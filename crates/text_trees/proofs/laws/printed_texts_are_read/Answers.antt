use Rattle.text_trees.proofs.PrintedTexts.{printed_texts_are_read}
use Rattle.text_trees.proofs.laws.printed_texts_are_read.Goals as goal

pub returns : goal.returns
returns c = printed_texts_are_read c.printed_tokens_stay.ensures
