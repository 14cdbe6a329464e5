use Rattle.std.proofs.Common.{◌∙◌, string_bytes, arith}
use Rattle.text_tokens.proofs.DocGaps.{gathers_all, gathers_more}
use Rattle.text_tokens.proofs.docs.documentation.Goals as goal

pub pieces-preserved : goal.pieces-preserved
pieces-preserved c = gathers_more c.args.gap.now c.pieces.at c.in_ok-at.at (string_bytes c.pieces.lines) (string_bytes c.add_docs.new.lines) c.pieces.invariant c.in_ok-at.ensures

pub returns : goal.returns
returns c =
    let g = c.pieces.invariant in
    c.docs_with.ensures g.added g.here g.are_lines ∙ gathers_all c.args.gap.now c.pieces.at (string_bytes c.pieces.lines) g (omega arith)
