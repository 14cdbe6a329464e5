use Rattle.std.proofs.Common.{ap, sym, ◌∙◌}
use Rattle.print_grammar.specs.{Keyword.Keyword, Tree.Prefix}
use Rattle.text_trees.specs.ReadFiles.{inclusion_behind, world_member_behind}
use Rattle.text_trees.specs.Reading.{made}
use Rattle.text_trees.specs.Seen.{ahead, docs_ahead, text_of}
use Rattle.text_trees.specs.TextTree.{WorldPart.Has}
use Rattle.text_trees.specs.TreesSeen.{prefix_of}
use Rattle.text_trees.proofs.Going.{if_key_not}
use Rattle.text_trees.proofs.parts.part_at.Goals as goal

pub returns-clause-ok : goal.returns-clause-ok
unfolding made
returns-clause-ok c =
    let them = c.args.tokens.now in
    let prefix : Prefix = prefix_of (text_of them) c.args.prefix in
    if_key_not Keyword.Include (inclusion_behind prefix) (λ rest. made Has (world_member_behind (docs_ahead them) 100 prefix rest)) (ahead them c.args.at)
    (sym c.begins_key.ensures.is ∙ c.if-begins_key.false) ∙ ap (made Has) c.in_ok-it.ensures.ok
