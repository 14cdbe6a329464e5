use Rattle.std.proofs.Common.{◌∙◌, sym, arith}
use Rattle.text_tokens.proofs.Fronts.{block_in_front, block_within}
use Rattle.text_tokens.proofs.lexer.front_at.Goals as goal

pub block_front-requires-clause-within : goal.block_front-requires-clause-within
block_front-requires-clause-within c = block_within c.args.bytes.now c.args.at (sym c.begins_block.ensures ∙ c.if-begins_block.true)

pub block_front-requires-clause-no_token : goal.block_front-requires-clause-no_token
block_front-requires-clause-no_token c =
    block_in_front c.args.bytes.now c.args.at (omega arith) (sym c.is_blank.ensures ∙ c.if-is_blank.false)
    (sym c.begins_comment.ensures ∙ c.if-begins_comment.false) (sym c.begins_block.ensures ∙ c.if-begins_block.true)
