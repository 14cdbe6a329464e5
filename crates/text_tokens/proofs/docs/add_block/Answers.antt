use Rattle.std.proofs.Common.{◌≡◌, ◌∙◌, ◌++◌, ◌+◌, ap, subst, arith, drop, string_bytes, Some, None}
use Rattle.text_tokens.specs.{Comments.after_block, Documentation.block_docs, Gathered.written}
use Rattle.text_tokens.proofs.DocGaps.{block_adds, open_adds, star_boundary}
use Rattle.text_tokens.proofs.docs.add_block.Goals as goal

pub range-requires-clause-start_boundary : goal.range-requires-clause-start_boundary
range-requires-clause-start_boundary c = λ some. star_boundary c.args.gap.now c.args.at c.utf8.gap c.requires.within c.requires.begins

pub returns-in_ok-add_block_docs-in-Some : goal.returns-in_ok-add_block_docs-in-Some
returns-in_ok-add_block_docs-in-Some c =
    let gap = c.args.gap.now in
    let end = c.in-Some.end in
    let rest = subst (λ x. Some (drop end x) ≡ after_block 0 (drop (c.args.at + 2) x)) c.as_bytes.ensures.value c.in-Some.ensures.rest in
    let further = c.in-Some.ensures.further in
    let within = c.in-Some.ensures.within in
    block_adds gap c.args.at end (string_bytes c.args.lines.now) (string_bytes c.add_block_docs.new.lines) c.requires.within c.requires.line c.requires.begins rest
    (omega arith) (omega arith)
    (c.in_ok-add_block_docs-in-Some.ensures ∙ ap (λ x. string_bytes c.args.lines.now ++ written (block_docs x)) c.range.ensures.value)

pub returns-in-None : goal.returns-in-None
returns-in-None c =
    let rest = subst (λ x. None ≡ after_block 0 (drop (c.args.at + 2) x)) c.as_bytes.ensures.value c.in-None.ensures.rest in
    open_adds c.args.gap.now c.args.at (string_bytes c.args.lines.now) c.requires.within c.requires.line c.requires.begins rest
