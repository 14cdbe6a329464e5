use Rattle.std.proofs.Common.{rules}
use Rattle.text_trees.specs.Seen.{docs_ahead, mark_there, text_of}
use Rattle.text_trees.proofs.Listings.{listing_begins, listing_refuses, listing_refuses_more, listing_ends, listing_goes_on}
use Rattle.text_trees.proofs.lists.listed_at.Goals as goal

pub items-init : goal.items-init
items-init g c =
    let them = c.args.tokens.now in
    let begun = listing_begins them (g.T.Form.reader (docs_ahead them)) (mark_there c.args.close) (g.T.Form.view (text_of them)) c.args.at (search rules) in search (rules, begun)

pub returns-in_err-item-clause-err : goal.returns-in_err-item-clause-err
returns-in_err-item-clause-err g c =
    let them = c.args.tokens.now in
    search (
      rules,
      listing_refuses them (g.T.Form.reader (docs_ahead them)) (mark_there c.args.close) (g.T.Form.view (text_of them)) c.args.at c.items.from c.items.items.items
          c.items.invariant,
    )

pub returns-in_err-goes_on-clause-err : goal.returns-in_err-goes_on-clause-err
returns-in_err-goes_on-clause-err g c =
    let them = c.args.tokens.now in
    search (
      rules,
      listing_refuses_more them (g.T.Form.reader (docs_ahead them)) (mark_there c.args.close) (g.T.Form.view (text_of them)) c.args.at c.items.from c.in_ok-item.end
          c.items.items.items c.in_ok-item.item c.items.invariant c.in_ok-item.ensures.ok,
    )

pub returns-then-not-goes_on-clause-ok : goal.returns-then-not-goes_on-clause-ok
returns-then-not-goes_on-clause-ok g c =
    let them = c.args.tokens.now in
    listing_ends them (g.T.Form.reader (docs_ahead them)) (mark_there c.args.close) (g.T.Form.view (text_of them)) c.args.at c.items.from c.in_ok-item.end
    c.in_ok-goes_on.behind c.items.items.items c.in_ok-item.item c.in_ok-goes_on.goes_on c.items.invariant c.in_ok-item.ensures.ok c.in_ok-goes_on.ensures.ok
    (search rules) _ (search rules)

pub items-preserved : goal.items-preserved
items-preserved g c =
    let them = c.args.tokens.now in
    listing_goes_on them (g.T.Form.reader (docs_ahead them)) (mark_there c.args.close) (g.T.Form.view (text_of them)) c.args.at c.items.from c.in_ok-item.end
    c.in_ok-goes_on.behind c.items.items.items c.in_ok-item.item c.in_ok-goes_on.goes_on c.items.invariant c.in_ok-item.ensures.ok c.in_ok-goes_on.ensures.ok
    (search rules) c.in_ok-item.ensures.goes c.in_ok-goes_on.ensures.goes c.in_ok-goes_on.ensures.within _ (search rules)
