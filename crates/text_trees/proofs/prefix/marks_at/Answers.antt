use Rattle.std.proofs.Common.{◌≡◌, rules, true, false}
use Rattle.print_grammar.specs.Token.{Mark.At}
use Rattle.text_trees.specs.{Reading.begins, Seen.ahead, Seen.text_of, TreesSeen.marks_of}
use Rattle.text_trees.proofs.Marking.{marking_begins, marking_ends, marking_goes_on, marking_refuses}
use Rattle.text_trees.proofs.prefix.marks_at.Goals as goal

pub attributes-init : goal.attributes-init
attributes-init c = marking_begins c.args.tokens.now c.args.ids c.args.at c.requires

pub returns-then-not-begins-clause-ok : goal.returns-then-not-begins-clause-ok
returns-then-not-begins-clause-ok c =
    let them = c.args.tokens.now in
    let none : begins At (ahead them c.attributes.from) ≡ false = search rules in
    marking_ends them c.args.ids c.args.at c.attributes.from (marks_of (text_of them) c.attributes.marks) c.attributes.invariant none

pub returns-in_err-more-clause-err : goal.returns-in_err-more-clause-err
returns-in_err-more-clause-err c =
    let them = c.args.tokens.now in
    let here : begins At (ahead them c.attributes.from) ≡ true = search rules in
    search (
      rules,
      marking_refuses them c.args.ids c.args.at c.attributes.from (marks_of (text_of them) c.attributes.marks) c.attributes.invariant here,
    )

pub attributes-preserved : goal.attributes-preserved
attributes-preserved c =
    let them = c.args.tokens.now in
    let here : begins At (ahead them c.attributes.from) ≡ true = search rules in
    marking_goes_on them c.args.ids c.args.at c.attributes.from c.in_ok-more.behind (marks_of (text_of them) c.attributes.marks)
    (marks_of (text_of them) c.in_ok-more.more) c.attributes.invariant here c.in_ok-more.ensures.ok c.in_ok-more.ensures.goes c.in_ok-more.ensures.within
