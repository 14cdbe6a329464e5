-- What is read under the names of a command line: files, and folders of WIT texts.
use Rattle.std.specs.Prelude.{◌≡◌, ◌≢◌, ◌⊎◌, ℕ, Bool, false, not, Any, List, [], codes, map, string_bytes, String}
use Rattle.std.specs.List.{AllZip}
use Rattle.std.specs.declared.alloc.Global.{Global}
use Rattle.teasel_files.specs.Contents.{AreBytes, IsFile}
use Rattle.teasel_files.specs.declared.source.{Folder.Folder, FolderText.FolderText, Source.Source}
use Rattle.teasel_files.specs.declared.source.Source.TheVariants as sources
use Rattle.teasel_messages.specs.declared.faults.ReadFault.{ReadFault}
use Rattle.teasel_messages.specs.declared.faults.ReadFault.TheVariants as faults
use Rattle.teasel_words.specs.Table.{Text, is_same}

-- paths as texts
abbrev pub paths_of : List (String Global) → List Text
paths_of paths = map string_bytes paths

-- This is what is read of a folder's text of this path, where the first is true of the bytes that a path has.
abbrev pub IsText : (Text → List ℕ → Type 0) → Text → FolderText → Type 0
IsText holds path t = (string_bytes t.path ≡ path) × AreBytes (holds path) t.bytes.items t.whole

-- This is what is read of the folder of this name: it has a text of its own at least, and each text that it lists is read, its own ones and those that they
-- use, in order.
pub record IsFolder (holds : Text → List ℕ → Type 0) (lists : Text → List Text → List Text → Type 0) (name : Text) (f : Folder) : Type 0 where
  pub own : List Text
  pub used : List Text
  pub listed : lists name own used
  pub has_text : own ≢ []
  pub own_read : AllZip (IsText holds) own f.own.items
  pub used_read : AllZip (IsText holds) used f.used.items

-- this is what is read of the file or the folder of this name
abbrev pub IsRead : (Text → List ℕ → Type 0) → (Text → List Text → List Text → Type 0) → Text → Source → Type 0
IsRead holds lists name (sources.File f) = IsFile (holds name) f
IsRead holds lists name (sources.Folder f) = IsFolder holds lists name f

-- The sources are what is read of the files and folders of these names, one by one.
abbrev pub AreRead : (Text → List ℕ → Type 0) → (Text → List Text → List Text → Type 0) → List Text → List Source → Type 0
AreRead holds lists names found = AllZip (IsRead holds lists) names found

-- ---- why nothing is read

-- whether what isn't read as a file is a folder, which isn't standard input
abbrev pub is_folder : Text → ReadFault → Bool
is_folder name faults.Folder = not (is_same name (codes "-"))
is_folder name _ = false

-- one of these paths can't be read, for some fault
abbrev pub HasUnread : (Text → ReadFault → Type 0) → List Text → Type 0
HasUnread fails paths = Any (λ path. (fault : ReadFault) × fails path fault) paths

-- Why nothing is read under a name, want of memory aside. It is no folder, and not read as a file. Or the folder's texts can't be listed, or one of them can't
-- be read. Or it has no text of its own.
pub data IsUnread (fails : Text → ReadFault → Type 0) (lists : Text → List Text → List Text → Type 0) (unlisted : Text → ReadFault → Type 0) (name : Text)
    : Type 0 where
  of_file : (fault : ReadFault) → is_folder name fault ≡ false → fails name fault → IsUnread fails lists unlisted name
  of_folder : (fault : ReadFault) → unlisted name fault → IsUnread fails lists unlisted name
  of_text : (own used : List Text) → lists name own used → HasUnread fails own ⊎ HasUnread fails used → IsUnread fails lists unlisted name
  no_text : (used : List Text) → lists name [] used → IsUnread fails lists unlisted name
