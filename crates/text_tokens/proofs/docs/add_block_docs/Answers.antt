use Rattle.std.proofs.Common.{◌≡◌, ◌∙◌, sym, ap, subst, ◌++◌, map, arith, Some, None, append-nil, string_bytes, true, false, OnOk}
use Rattle.std.proofs.lemmas.Str.Pattern.{strip_prefix_char}
use Rattle.std.specs.Str.Lines.{lines}
use Rattle.text_tokens.specs.{Documentation.block_docs, Documentation.without_returns, Gathered.written}
use Rattle.text_tokens.proofs.DocSteps.{block_docs_by, block_docs_none, star_first}
use Rattle.text_tokens.proofs.docs.add_block_docs.Goals as goal

pub returns-then-begins_with : goal.returns-then-begins_with
returns-then-begins_with c =
    let text = c.in-Some.text.now in
    let whole = strip_prefix_char 42 c.args.within.now (Some c.in-Some.text) c.in-Some.ensures.cases (omega arith) in
    let none = ap block_docs whole ∙ block_docs_by text true (star_first text ∙ (sym c.begins_with.ensures ∙ c.if-begins_with.true)) in
    sym (ap (λ x. string_bytes c.args.lines.now ++ written x) none ∙ append-nil (string_bytes c.args.lines.now))

pub returns-else-begins_with : goal.returns-else-begins_with
returns-else-begins_with c =
    let text = c.in-Some.text.now in
    let whole = strip_prefix_char 42 c.args.within.now (Some c.in-Some.text) c.in-Some.ensures.cases (omega arith) in
    let all = ap block_docs whole ∙ block_docs_by text false (star_first text ∙ (sym c.begins_with.ensures ∙ c.if-begins_with.false)) in
    subst (λ x. OnOk c.add_lines.result (string_bytes c.add_lines.new.lines ≡ string_bytes c.args.lines.now ++ written x))
    (ap (λ x. map without_returns (lines x)) c.trim.ensures.trim ∙ sym all) c.add_lines.ensures

pub returns-in-None : goal.returns-in-None
returns-in-None c =
    let none = block_docs_none c.args.within.now (strip_prefix_char 42 c.args.within.now None c.in-None.ensures.cases (omega arith)) in
    sym (ap (λ x. string_bytes c.args.lines.now ++ written x) none ∙ append-nil (string_bytes c.args.lines.now))
