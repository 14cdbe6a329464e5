use Rattle.std.proofs.Common.{◌∙◌, ap, map, sym}
use Rattle.print_grammar.specs.Tree.TypeTree.{TupleOf}
use Rattle.text_trees.specs.ReadTypes.{tuple_types}
use Rattle.text_trees.specs.TreesSeen.{type_of}
use Rattle.text_plain.specs.Moved.{moved_type}
use Rattle.text_plain.specs.Moves.{on_name, text_from, text_to}
use Rattle.text_plain.proofs.Rows.{moved_tuple}
use Rattle.text_plain.proofs.types.+types.Goals as goal
use Rattle.text_trees.proofs.Rows.{tuple_trees}

pub copy_type-returns-in_ok-copy_types-in-TupleOf : goal.copy_type-returns-in_ok-copy_types-in-TupleOf
copy_type-returns-in_ok-copy_types-in-TupleOf t c =
    let moving = c.args.moving.now in
    let from = text_from moving in
    let moved = moved_type (on_name moving) in
    c.tuple_of.ensures (text_to moving)
    ∙ (ap (λ l. TupleOf (tuple_types l)) (c.in_ok-copy_types-in-TupleOf.ensures ∙ ap (λ l. map moved (map (type_of from) l)) c.deref.ensures.value)
    ∙ (ap TupleOf (sym (moved_tuple (on_name moving) (map (type_of from) c.in-TupleOf.types.items)))
    ∙ ap moved (sym (ap (type_of from) c.in-TupleOf.is ∙ tuple_trees from c.in-TupleOf.types))))
