-- What trees of plain files of the code are by the grammar, in the whole text.
use Rattle.std.specs.Prelude.{map}
use Rattle.wit_model.specs.Text.{Text}
use Rattle.print_grammar.specs.Tree.{FileTree, ItemTree, ItemTree.InterfaceItem, ItemTree.WorldItem, PackageTree}
use Rattle.text_trees.specs.{Seen.cut, TextTreesSeen.documented_head, TreesSeen.docs_of, TreesSeen.gates_of, TreesSeen.member_of, TreesSeen.world_member_of}
use Rattle.text_plain.specs.declared.files.{FileTree.FileTree as CodeFile, ItemTree.ItemTree as CodeItem, PackageTree.PackageTree as CodePackage}
use Rattle.text_plain.specs.declared.files.ItemTree.TheVariants as item

-- an interface or a world
abbrev pub item_of : Text → CodeItem → ItemTree
item_of text (item.InterfaceItem docs gates name members) =
    InterfaceItem (docs_of text docs) (gates_of text gates) (cut text name) (map (member_of text) members.items)
item_of text (item.WorldItem docs gates name members) = WorldItem (docs_of text docs) (gates_of text gates) (cut text name)
    (map (world_member_of text) members.items)

-- a package
abbrev pub package_of : Text → CodePackage → PackageTree
package_of text it = record { head = documented_head text it.docs it.head; items = map (item_of text) it.items.items }

-- a file
abbrev pub file_of : Text → CodeFile → FileTree
file_of text file = record { main = package_of text file.main; nested = map (package_of text) file.nested.items }
