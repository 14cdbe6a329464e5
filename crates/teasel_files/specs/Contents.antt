-- What is read of files.
use Rattle.std.specs.Prelude.{◌≡◌, ℕ, Bool, true, false, List, [], ◌∷◌, codes, if◌then◌else◌}
use Rattle.teasel_files.specs.declared.{input.Content.Content, source.File.File}
use Rattle.teasel_messages.specs.{Looks.has_preamble, Reasons.is_memory_fault, declared.faults.ReadFault.ReadFault}
use Rattle.teasel_words.specs.{Given.Given, Table.Text}
use Rattle.teasel_words.specs.declared.table.Word.{Word}
use Rattle.teasel_words.specs.declared.table.Word.TheVariants as words

-- These are all bytes of a file, of which this is true; or some of the first ones, which are no preamble of WebAssembly.
abbrev pub AreBytes : (List ℕ → Type 0) → List ℕ → Bool → Type 0
AreBytes Holds bytes true = Holds bytes
AreBytes Holds bytes false = has_preamble bytes ≡ false

-- what is read of a file of which this is true
abbrev pub IsContent : (List ℕ → Type 0) → Content → Type 0
IsContent Holds c = AreBytes Holds c.bytes.items c.whole

-- the same with the file's name
abbrev pub IsFile : (List ℕ → Type 0) → File → Type 0
IsFile Holds f = AreBytes Holds f.bytes.items f.whole

-- memory was wanting, or this is so of the fault for which a file or a folder isn't read
abbrev pub UnreadFor : (ReadFault → Type 0) → ReadFault → Type 0
UnreadFor Why fault = is_memory_fault fault ≡ false → Why fault

-- whether a word is about files
abbrev pub has_files : Word → Bool
has_files words.Completion = false
has_files words.Man = false
has_files words.Help = false
has_files words.Version = false
has_files _ = true

-- the names of files, or standard input where there is none
abbrev pub or_input : List Text → List Text
or_input [] = codes "-" ∷ []
or_input (name ∷ names) = name ∷ names

-- the files and folders that are read: those that are named, or standard input, or none where the word is to be explained, or is about none
abbrev pub files_of : Given → List Text
files_of g = if g.help then [] else (if has_files g.word_ then or_input g.files else [])
