-- What trees of texts of the code are by the grammar, in the text that their spans are of.
use Rattle.std.specs.Prelude.{◌++◌, List, ℕ, Option, map}
use Rattle.std.specs.List.{filter_map}
use Rattle.std.specs.Option.{option_map}
use Rattle.wit_model.specs.Text.{Text}
use Rattle.print_grammar.specs.Tree.{Gates, PackageHead, PathTree, Prefix}
use Rattle.text_trees.specs.declared.tree.{NestedTree.NestedTree as CodeNested, PackageHead.PackageHead as CodeHead, Span.Span, TextItem.TextItem as CodeItem, TextTree.TextTree as CodeText, WorldPart.WorldPart as CodePart}
use Rattle.text_trees.specs.declared.tree.TextItem.TheVariants as item
use Rattle.text_trees.specs.declared.tree.WorldPart.TheVariants as part
use Rattle.text_trees.specs.{Seen.cut, TextTree.NestedTree, TextTree.TextItem, TextTree.TextTree, TextTree.WorldPart}
use Rattle.text_trees.specs.TextTree.{WorldPart.Has, WorldPart.Includes, TextItem.AnInterface, TextItem.AWorld, TextItem.AName}
use Rattle.print_grammar.specs.{Token.Token, Token.Mark.CloseBrace, Token.Mark.OpenBrace}
use Rattle.text_trees.specs.Grammar.{Documentation}
use Rattle.text_trees.specs.ReadDeclared.{gates_in_front, named}
use Rattle.text_trees.specs.ReadFiles.{Piece, head_with, inclusion_ended, item_behind, item_of_piece, members_in_front, nested_of_piece, other_name_in_front, parts_in_front}
use Rattle.text_trees.specs.Reading.{Reading, behind_mark, listed, made, then_read}
use Rattle.text_trees.specs.TreesSeen.{docs_of, gates_of, head_of, member_of, path_of, prefix_of, used_name_of, world_member_of}

-- what a world has
abbrev pub part_of : Text → CodePart → WorldPart
part_of text (part.Has it) = Has (world_member_of text it)
part_of text (part.Includes prefix path names) = Includes (prefix_of text prefix) (path_of text path) (map (used_name_of text) names.items)

-- an item
abbrev pub text_item_of : Text → CodeItem → TextItem
text_item_of text (item.AnInterface docs gates name members) =
    AnInterface (docs_of text docs) (gates_of text gates) (cut text name) (map (member_of text) members.items)
text_item_of text (item.AWorld docs gates name parts) = AWorld (docs_of text docs) (gates_of text gates) (cut text name) (map (part_of text) parts.items)
text_item_of text (item.AName path name) = AName (path_of text path) (option_map (cut text) name)

-- what names a package, with its documentation
abbrev pub documented_head : Text → Span → CodeHead → PackageHead
documented_head text docs head = head_with (docs_of text docs) (head_of text head)

-- a nested package
abbrev pub nested_of : Text → CodeNested → NestedTree
nested_of text it = record { head = documented_head text it.docs it.head; items = map (text_item_of text) it.items.items }

-- a text
abbrev pub tree_of : Text → CodeText → TextTree
tree_of text it =
    record {
      head = option_map (documented_head text it.docs) it.head;
      items = map (text_item_of text) it.items.items;
      nested = map (nested_of text) it.nested.items;
    }

-- ---- parts of readers

-- what follows `with` in an inclusion: other names in braces, and perhaps `;`
abbrev pub other_names_behind : Prefix → PathTree → List Token → Reading WorldPart
other_names_behind prefix path =
    behind_mark OpenBrace (λ rest. then_read (listed other_name_in_front CloseBrace rest) (inclusion_ended prefix path))

-- an interface, behind its word
abbrev pub interface_in_front : Documentation → ℕ → List Text → Gates → List Token → Reading TextItem
interface_in_front docs room lines gates = named (λ name rest. made (AnInterface lines gates name) (members_in_front docs room rest))

-- a world, behind its word
abbrev pub world_in_front : Documentation → ℕ → List Text → Gates → List Token → Reading TextItem
world_in_front docs room lines gates = named (λ name rest. made (AWorld lines gates name) (parts_in_front docs room rest))

-- an interface or a world with its gates, behind its documentation
abbrev pub gated_item : Documentation → ℕ → List Text → List Token → Reading TextItem
gated_item docs room lines ts = then_read (gates_in_front ts) (item_behind docs room lines)

-- a text of these pieces, behind nested packages
abbrev pub text_onto : Option PackageHead → List NestedTree → List Piece → TextTree
text_onto head first pieces = record { head = head; items = filter_map item_of_piece pieces; nested = first ++ filter_map nested_of_piece pieces }
