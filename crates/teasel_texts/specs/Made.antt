-- What comes in the place of WIT text, and of folders of texts.
use Rattle.std.specs.Prelude.{◌≡◌, ◌||◌, ◌++◌, not, Bool, true, false, ℕ, None, Some, List, [], ◌∷◌, length, map}
use Rattle.std.specs.List.{AllZip, list_any}
use Rattle.witc_read.specs.Packages.{IsPackageAs, IsUnmade}
use Rattle.teasel_files.specs.declared.source.{File.File, Folder.Folder, FolderText.FolderText, Source.Source}
use Rattle.teasel_files.specs.declared.source.Source.TheVariants as sources
use Rattle.teasel_messages.specs.Looks.{begins_as_text}
use Rattle.teasel_texts.specs.declared.input.{Input.Input, Read.Read}

-- the bytes of a folder's texts
abbrev pub bytes_in : List FolderText → List (List ℕ)
bytes_in texts = map (λ t. t.bytes.items) texts

-- An input is the package of texts, with what they are read as; or one that isn't whole where none is made.
pub data IsMade (texts : List (List ℕ)) (own : ℕ) (taken : Input) : Type 0 where
  for_package : (read : Read) → taken.whole ≡ true → taken.read ≡ Some read → IsPackageAs texts own read.resolve read.main taken.bytes.items
      → IsMade texts own taken
  for_nothing : taken.whole ≡ false → IsUnmade texts own → IsMade texts own taken

-- A file is taken for itself, where it isn't text, or isn't whole; or for what is made of its text.
pub data IsFileTaken (f : File) (taken : Input) : Type 0 where
  for_itself : begins_as_text f.bytes.items ≡ false → taken.bytes ≡ f.bytes → taken.whole ≡ f.whole → taken.read ≡ None → IsFileTaken f taken
  in_part : f.whole ≡ false → taken.whole ≡ false → IsFileTaken f taken
  for_text : begins_as_text f.bytes.items ≡ true → IsMade (f.bytes.items ∷ []) 1 taken → IsFileTaken f taken

-- whether a file of a folder isn't read whole, or doesn't begin as text does
abbrev pub is_foreign : FolderText → Bool
is_foreign t = not t.whole || not (begins_as_text t.bytes.items)

-- A folder is taken for what is made of its texts, its own ones and those that they use; or for an input that isn't whole, where one is foreign.
pub data IsFolderTaken (f : Folder) (taken : Input) : Type 0 where
  foreign : list_any is_foreign (f.own.items ++ f.used.items) ≡ true → taken.whole ≡ false → IsFolderTaken f taken
  for_texts : list_any is_foreign (f.own.items ++ f.used.items) ≡ false → IsMade (bytes_in f.own.items ++ bytes_in f.used.items) (length f.own.items) taken
      → IsFolderTaken f taken

-- what is taken for what is read
abbrev pub IsTaken : Source → Input → Type 0
IsTaken (sources.File f) taken = IsFileTaken f taken
IsTaken (sources.Folder f) taken = IsFolderTaken f taken

-- the same of each
abbrev pub AreTaken : List Source → List Input → Type 0
AreTaken found taken = AllZip IsTaken found taken
