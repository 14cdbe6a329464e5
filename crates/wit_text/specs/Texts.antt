-- What texts are read as, and why they aren't.
use Rattle.std.specs.Prelude.{◌≡◌, ◌⊎◌, ℕ, nat_lt, List, map, Some, if◌then◌else◌}
use Rattle.std.specs.List.{enumerate_from, AllZip}
use Rattle.print_grammar.specs.Tree.{FileTree}
use Rattle.text_plain.specs.Plain.{FilesAre, FolderText}
use Rattle.text_trees.specs.{Reads.IsReadAs, TextTree.TextTree}
use Rattle.text_names.specs.declared.error.Fault.{Fault}
use Rattle.print_items.specs.Shown.{shown_package}
use Rattle.wit_model.specs.declared.model.{Package.Package, PackageId.PackageId, Resolve.Resolve}
use Rattle.wit_model.specs.{Lookup.package_at, Valid.IsValid}
use Rattle.text_shown.specs.{SamePackages.IsPrinted, Shows.ShowsFiles}
use Rattle.wit_text.specs.{Refusals.HaveTrees, Refusals.RefusesTrees}

-- the folder of a text, by its number: so many texts, the first ones, stand in one, and each other one by itself
abbrev pub folder_of : ℕ → ℕ → ℕ
folder_of own n = if nat_lt n own then 0 else n

-- the trees of texts in their folders
abbrev pub in_folders : ℕ → List TextTree → List FolderText
in_folders own trees = map (λ x. record { folder = folder_of own x.0; tree = x.1 }) (enumerate_from 0 trees)

-- The packages of texts, and for each text the one that it begins with, where so many texts, the first ones, stand in one folder. The packages are valid, and
-- what the files are that the texts' trees are; and what is printed of each declares the same.
pub record ReadsTexts (texts : List (List ℕ)) (own : ℕ) (r : Resolve) (mains : List PackageId) : Type 0 where
  pub valid : IsValid r
  pub trees : List TextTree
  pub read : AllZip IsReadAs texts trees
  pub files : List FileTree
  pub plain : FilesAre (in_folders own trees) files
  pub shows : ShowsFiles files r mains
  pub printed : (id : PackageId) (p : Package) → package_at r id.0 ≡ Some p → IsPrinted files p (shown_package r id)

-- Why texts aren't read: the first of them that has no tree is refused at a place, and for what stops its reading there; or all have trees, and what they
-- declare is refused.
abbrev pub RefusesTexts : List (List ℕ) → Fault → Type 0
RefusesTexts texts fault = RefusesTrees texts fault ⊎ HaveTrees texts
