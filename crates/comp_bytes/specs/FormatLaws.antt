-- Laws over the definitions of bytes.
use Rattle.std.specs.Prelude.{◌≡◌, ◌<◌, ◌≤◌, ◌^◌, ℕ, List, length}
use Rattle.std.specs.{List.AllByRecursion, Str.IsUtf8}
use Rattle.comp_bytes.specs.{Form.Spellings, Form.Name, Number.IsU32, Number.IsTypeIndex, Writing.u32_bytes, Writing.type_index_bytes, Writing.name_bytes}
use Rattle.comp_bytes.specs.{Raw.Section, Spelling.IsComponent}

-- A byte string spells the sections of one component at most.
abbrev pub OneForm : Type 0
OneForm = (bytes : List ℕ) (a b : List Section) → IsComponent a bytes → IsComponent b bytes → a ≡ b

-- These bytes spell the form, and no other bytes that do are fewer.
abbrev pub IsShortest : Spellings → List ℕ → Type 0
IsShortest form text = form text × ((bytes : List ℕ) → AllByRecursion (λ b. b < 256) bytes → form bytes → length text ≤ length bytes)

-- What is written of a number is its shortest spelling.
abbrev pub ShortestNumber : Type 0
ShortestNumber = (n : ℕ) → n < 2 ^ 32 → IsShortest (IsU32 n) (u32_bytes n)

-- What is written of the index of a type is its shortest spelling.
abbrev pub ShortestIndex : Type 0
ShortestIndex = (n : ℕ) → n < 2 ^ 32 → IsShortest (IsTypeIndex n) (type_index_bytes n)

-- What is written of a name is its shortest spelling.
abbrev pub ShortestName : Type 0
ShortestName = (text : List ℕ) → IsUtf8 text → length text < 2 ^ 32 → IsShortest (Name text) (name_bytes text)
