use Rattle.std.proofs.Common.{ap, ◌∙◌}
use Rattle.print_grammar.specs.Token.Mark.{CloseBrace, OpenBrace}
use Rattle.print_grammar.specs.Tree.{PathTree, Prefix}
use Rattle.text_trees.specs.ReadFiles.{inclusion_ended, other_name_in_front}
use Rattle.text_trees.specs.Reading.{listed, then_read}
use Rattle.text_trees.specs.{Seen.text_of, TreesSeen.path_of, TreesSeen.prefix_of}
use Rattle.text_trees.proofs.Going.{mark_goes}
use Rattle.text_trees.proofs.parts.renamed_at.Goals as goal

pub returns-clause-ok : goal.returns-clause-ok
unfolding then_read
returns-clause-ok c =
    let them = c.args.tokens.now in
    let prefix : Prefix = prefix_of (text_of them) c.args.prefix in
    let path : PathTree = path_of (text_of them) c.args.path in
    mark_goes them OpenBrace (λ rest. then_read (listed other_name_in_front CloseBrace rest) (inclusion_ended prefix path)) c.args.at c.in_ok-from.from
    c.in_ok-from.ensures.ok c.in_ok-from.ensures.goes
    ∙ ap (λ x. then_read x (inclusion_ended prefix path)) c.in_ok-names.ensures.ok ∙ c.past_semi-behind.ensures.is _
