-- The types of a tuple, as a row and as a list.
use Rattle.std.proofs.Common.{◌≡◌, refl, ap, List, [], ◌∷◌, map}
use Rattle.wit_model.specs.Text.{Text}
use Rattle.print_grammar.specs.Tree.{TypeTree as GrammarType, TypeTrees.AndTypes}
use Rattle.text_trees.specs.ReadTypes.{tuple_types}
use Rattle.text_plain.specs.Moved.{moved_type, moved_types}

pub moved_tuple : (on_name : Text → Text) (types : List GrammarType) → moved_types on_name (tuple_types types) ≡ tuple_types (map (moved_type on_name) types)
moved_tuple on_name [] = refl
moved_tuple on_name (ty ∷ types) = ap (AndTypes (moved_type on_name ty)) (moved_tuple on_name types)
