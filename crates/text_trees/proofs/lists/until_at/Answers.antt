use Rattle.std.proofs.Common.{rules, sym, ◌∙◌}
use Rattle.text_trees.specs.Seen.{docs_ahead, mark_there, text_of}
use Rattle.text_trees.specs.Reading.{begins}
use Rattle.text_trees.proofs.Untils.{reaching_begins, reaching_refuses, reaching_ends, reaching_goes_on}
use Rattle.text_trees.proofs.lists.until_at.Goals as goal

pub items-init : goal.items-init
items-init g c =
    let them = c.args.tokens.now in
    let begun = reaching_begins them (g.T.Form.reader (docs_ahead them)) (begins (mark_there c.args.close)) (g.T.Form.view (text_of them)) c.args.at (search rules) in search (rules, begun)

pub returns-in_err-item-clause-err : goal.returns-in_err-item-clause-err
returns-in_err-item-clause-err g c =
    let them = c.args.tokens.now in
    search (
      rules,
      reaching_refuses them (g.T.Form.reader (docs_ahead them)) (begins (mark_there c.args.close)) (g.T.Form.view (text_of them)) c.args.at c.items.from c.items.items.items
          c.items.invariant (sym c.begins.ensures.is ∙ c.if-begins.false),
    )

pub returns-then-begins-clause-ok : goal.returns-then-begins-clause-ok
returns-then-begins-clause-ok g c =
    let them = c.args.tokens.now in
    reaching_ends them (g.T.Form.reader (docs_ahead them)) (begins (mark_there c.args.close)) (g.T.Form.view (text_of them)) c.args.at c.items.from c.items.items.items
    c.items.invariant (sym c.begins.ensures.is ∙ c.if-begins.true)

pub items-preserved : goal.items-preserved
items-preserved g c =
    let them = c.args.tokens.now in
    reaching_goes_on them (g.T.Form.reader (docs_ahead them)) (begins (mark_there c.args.close)) (g.T.Form.view (text_of them)) c.args.at c.items.from c.in_ok-item.behind
    c.items.items.items c.in_ok-item.item c.items.invariant (sym c.begins.ensures.is ∙ c.if-begins.false) c.in_ok-item.ensures.ok c.in_ok-item.ensures.goes
    c.in_ok-item.ensures.within _ (search rules)
