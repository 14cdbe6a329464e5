use Rattle.std.proofs.Common.{◌∙◌, ap, sym, drop, string_bytes}
use Rattle.print_grammar.specs.Token.{begins_comment}
use Rattle.text_tokens.specs.Comments.{begins_block}
use Rattle.text_tokens.proofs.{DocGaps.comment_within, DocGaps.other_adds, Fronts.block_within}
use Rattle.text_tokens.proofs.docs.add_docs.Goals as goal

pub add_comment-requires-clause-within : goal.add_comment-requires-clause-within
add_comment-requires-clause-within c =
    comment_within c.args.gap.now c.args.at
    (ap (λ x. begins_comment (drop c.args.at x)) (sym c.as_bytes.ensures.value) ∙ (sym c.begins_comment.ensures ∙ c.if-begins_comment.true))

pub add_block-requires-clause-within : goal.add_block-requires-clause-within
add_block-requires-clause-within c =
    block_within c.args.gap.now c.args.at
    (ap (λ x. begins_block (drop c.args.at x)) (sym c.as_bytes-else-begins_comment.ensures.value) ∙ (sym c.begins_block.ensures ∙ c.if-begins_block.true))

pub returns-else-begins_block : goal.returns-else-begins_block
returns-else-begins_block c =
    other_adds c.args.gap.now c.args.at (string_bytes c.args.lines.now) c.requires
    (ap (λ x. begins_comment (drop c.args.at x)) (sym c.as_bytes.ensures.value) ∙ (sym c.begins_comment.ensures ∙ c.if-begins_comment.false))
    (ap (λ x. begins_block (drop c.args.at x)) (sym c.as_bytes-else-begins_comment.ensures.value) ∙ (sym c.begins_block.ensures ∙ c.if-begins_block.false))
