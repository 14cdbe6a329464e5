use Rattle.text_trees.specs.declared.front.Tokens.{Tokens}
use Rattle.text_trees.specs.Seen.{ahead}
use Rattle.text_trees.specs.TextTreesSeen.{tree_of}
use Rattle.text_trees.proofs.Trees.{tree_found, tree_refused_as, tree_shallow}
use Rattle.text_trees.proofs.read.tree_of.Goals as goal

pub returns-in-Err-Wanted-clause-err : goal.returns-in-Err-Wanted-clause-err
returns-in-Err-Wanted-clause-err c =
    let e = c.in-Err-Wanted in
    tree_refused_as (record { text = c.args.text; places = c.args.places }) e.field-0 e.wanted e.at c.byte_at.result e.ensures.err (cc e.field-0-is) c.byte_at.ensures

pub returns-in-Ok-clause-ok : goal.returns-in-Ok-clause-ok
returns-in-Ok-clause-ok c =
    let them : Tokens = record { text = c.args.text; places = c.args.places } in
    tree_found them (tree_of c.args.text.now c.in-Ok.tree) (ahead them c.in-Ok.field-0-1) c.in-Ok.ensures.ok

pub returns-in-Ok-clause-shallow : goal.returns-in-Ok-clause-shallow
returns-in-Ok-clause-shallow c =
    let them : Tokens = record { text = c.args.text; places = c.args.places } in
    tree_shallow them (tree_of c.args.text.now c.in-Ok.tree) (ahead them c.in-Ok.field-0-1) c.in-Ok.ensures.ok
