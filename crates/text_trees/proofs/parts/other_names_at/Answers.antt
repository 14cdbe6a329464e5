use Rattle.std.proofs.Common.{rules}
use Rattle.print_grammar.specs.Token.Mark.{CloseBrace}
use Rattle.text_trees.specs.{ReadFiles.other_name_in_front, Seen.text_of, TreesSeen.used_name_of}
use Rattle.text_trees.proofs.Listings.{listing_begins, listing_refuses, listing_refuses_more, listing_ends, listing_goes_on}
use Rattle.text_trees.proofs.parts.other_names_at.Goals as goal

pub names-init : goal.names-init
names-init c =
    let begun = listing_begins c.args.tokens.now other_name_in_front CloseBrace (used_name_of (text_of c.args.tokens.now)) c.args.at (search rules) in search (rules, begun)

pub returns-in_err-name-clause-err : goal.returns-in_err-name-clause-err
returns-in_err-name-clause-err c =
    search (
      rules,
      listing_refuses c.args.tokens.now other_name_in_front CloseBrace (used_name_of (text_of c.args.tokens.now)) c.args.at c.names.from c.names.names.items
          c.names.invariant,
    )

pub returns-in_err-goes_on-clause-err : goal.returns-in_err-goes_on-clause-err
returns-in_err-goes_on-clause-err c =
    search (
      rules,
      listing_refuses_more c.args.tokens.now other_name_in_front CloseBrace (used_name_of (text_of c.args.tokens.now)) c.args.at c.names.from c.in_ok-name.end
          c.names.names.items c.in_ok-name.name c.names.invariant c.in_ok-name.ensures.ok,
    )

pub returns-then-not-goes_on-clause-ok : goal.returns-then-not-goes_on-clause-ok
returns-then-not-goes_on-clause-ok c =
    listing_ends c.args.tokens.now other_name_in_front CloseBrace (used_name_of (text_of c.args.tokens.now)) c.args.at c.names.from c.in_ok-name.end
    c.in_ok-goes_on.behind c.names.names.items c.in_ok-name.name c.in_ok-goes_on.goes_on c.names.invariant c.in_ok-name.ensures.ok c.in_ok-goes_on.ensures.ok
    (search rules) _ (search rules)

pub names-preserved : goal.names-preserved
names-preserved c =
    listing_goes_on c.args.tokens.now other_name_in_front CloseBrace (used_name_of (text_of c.args.tokens.now)) c.args.at c.names.from c.in_ok-name.end
    c.in_ok-goes_on.behind c.names.names.items c.in_ok-name.name c.in_ok-goes_on.goes_on c.names.invariant c.in_ok-name.ensures.ok c.in_ok-goes_on.ensures.ok
    (search rules) c.in_ok-name.ensures.goes c.in_ok-goes_on.ensures.goes c.in_ok-goes_on.ensures.within _ (search rules)
