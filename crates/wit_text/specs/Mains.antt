-- What is read of texts, by number: the packages that they begin with, and their trees.
use Rattle.std.specs.Prelude.{ℕ, List, map}
use Rattle.wit_model.specs.declared.model.PackageId.{PackageId}
use Rattle.print_grammar.specs.Tree.{FileTree}
use Rattle.text_plain.specs.FilesSeen.{file_of}
use Rattle.text_plain.specs.declared.whole.FolderText.{FolderText}
use Rattle.text_trees.specs.{TextTree.TextTree, TextTreesSeen.tree_of}
use Rattle.text_names.specs.declared.source.Source.{Source}

-- packages by number
abbrev pub numbers_of : List PackageId → List ℕ
numbers_of mains = map (λ p. p.0) mains

-- the trees of texts
abbrev pub files_of : List Source → List FileTree
files_of texts = map (λ s. file_of s.text.now s.file.now) texts

-- the trees of texts in folders
abbrev pub trees_in : List FolderText → List TextTree
trees_in list = map (λ f. tree_of f.text.now f.tree.now) list
