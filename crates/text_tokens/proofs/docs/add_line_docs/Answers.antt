use Rattle.std.proofs.Common.{◌≡◌, ◌∙◌, sym, ap, subst, ◌++◌, ◌∷◌, [], arith, Some, None, append-nil, string_bytes, true, false, OnOk}
use Rattle.std.proofs.lemmas.Str.Pattern.{strip_prefix_char}
use Rattle.text_tokens.specs.{Documentation.line_docs, Documentation.without_returns, Gathered.written}
use Rattle.text_tokens.proofs.DocSteps.{line_docs_by, line_docs_none, slash_first}
use Rattle.text_tokens.proofs.docs.add_line_docs.Goals as goal

pub returns-then-begins_with : goal.returns-then-begins_with
returns-then-begins_with c =
    let line = c.in-Some.line.now in
    let whole = strip_prefix_char 47 c.args.behind.now (Some c.in-Some.line) c.in-Some.ensures.cases (omega arith) in
    let none = ap line_docs whole ∙ line_docs_by line true (slash_first line ∙ (sym c.begins_with.ensures ∙ c.if-begins_with.true)) in
    sym (ap (λ x. string_bytes c.args.lines.now ++ written x) none ∙ append-nil (string_bytes c.args.lines.now))

pub returns-else-begins_with : goal.returns-else-begins_with
returns-else-begins_with c =
    let line = c.in-Some.line.now in
    let whole = strip_prefix_char 47 c.args.behind.now (Some c.in-Some.line) c.in-Some.ensures.cases (omega arith) in
    let one = ap line_docs whole ∙ line_docs_by line false (slash_first line ∙ (sym c.begins_with.ensures ∙ c.if-begins_with.false)) in
    subst (λ x. OnOk c.add_line.result (string_bytes c.add_line.new.lines ≡ string_bytes c.args.lines.now ++ written x))
    (ap (λ x. without_returns x ∷ []) c.without_space.ensures ∙ sym one) c.add_line.ensures

pub returns-in-None : goal.returns-in-None
returns-in-None c =
    let none = line_docs_none c.args.behind.now (strip_prefix_char 47 c.args.behind.now None c.in-None.ensures.cases (omega arith)) in
    sym (ap (λ x. string_bytes c.args.lines.now ++ written x) none ∙ append-nil (string_bytes c.args.lines.now))
