use Rattle.std.proofs.Common.{◌≡◌, ◌∙◌, ◌++◌, ◌+◌, ap, subst, arith, drop, string_bytes}
use Rattle.print_grammar.specs.Token.{after_comment}
use Rattle.text_tokens.specs.{Documentation.line_docs, Gathered.written}
use Rattle.text_tokens.proofs.DocGaps.{comment_adds, slash_boundary}
use Rattle.text_tokens.proofs.docs.add_comment.Goals as goal

pub range-requires-clause-start_boundary : goal.range-requires-clause-start_boundary
range-requires-clause-start_boundary c = λ some. slash_boundary c.args.gap.now c.args.at c.utf8.gap c.requires.within c.requires.begins

pub returns : goal.returns
returns c =
    let gap = c.args.gap.now in
    let end = c.comment_end-end.result in
    let rest = subst (λ x. drop end x ≡ after_comment (drop (c.args.at + 2) x)) c.as_bytes.ensures.value c.comment_end-end.ensures.rest in
    comment_adds gap c.args.at end (string_bytes c.args.lines.now) (string_bytes c.add_line_docs.new.lines) c.requires.within c.requires.begins rest
    c.comment_end-end.ensures.further (omega arith)
    (c.in_ok-add_line_docs.ensures ∙ ap (λ x. string_bytes c.args.lines.now ++ written (line_docs x)) c.range.ensures.value)
