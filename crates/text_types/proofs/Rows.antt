-- The types of a tuple, as a row and as a list.
use Rattle.std.proofs.Common.{◌≡◌, refl, ap, ◌∙◌, Vec, Global}
use mathlib.Core.Former.{Count}
use Rattle.wit_model.specs.Text.{Text}
use Rattle.print_grammar.specs.Tree.{TypeTree.TupleOf as Tuple, TypeTrees.AndTypes}
use Rattle.text_trees.specs.TreesSeen.{type_of, row_of_types}
use Rattle.text_trees.specs.declared.tree.TypeTree.{TypeTree, TupleOf, TupleOf', Row_of-TypeTree}
use Rattle.text_trees.specs.declared.tree.TypeTree.{end_of-TypeTree, more_of-TypeTree, items-the_row-TypeTree, items_hidden-the_row-TypeTree-0}
use Rattle.text_types.specs.Forms.{types_seen}

row_trees : (text : Text) (n : _) (k : Row_of-TypeTree n) → row_of_types text k ≡ types_seen text (items-the_row-TypeTree n k)
row_trees text n end_of-TypeTree = refl
row_trees text n (more_of-TypeTree ty row) = ap (AndTypes (type_of text ty)) (row_trees text _ row)

abbrev row_in : TypeTree → (n : Count) × Row_of-TypeTree n
row_in (TupleOf' _ row) = (_, row)
row_in _ = (_, end_of-TypeTree)

pub tuple_trees : (text : Text) (types : Vec TypeTree Global) → type_of text (TupleOf types) ≡ Tuple (types_seen text types.items)
tuple_trees text types =
    let row = row_in (TupleOf types) in
    ap Tuple (row_trees text row.0 row.1 ∙ ap (λ x. types_seen text x) (items_hidden-the_row-TypeTree-0 types))
