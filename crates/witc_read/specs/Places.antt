-- Messages of texts that are refused at a place.
use Rattle.std.specs.Prelude.{◌≡◌, ◌++◌, ℕ, Option, Some, None, if◌then◌else◌, List, [], codes, length, map, nat_lt, slice_get}
use Rattle.std.specs.{Fmt.decimal, Str.is_utf8}
use Rattle.text_names.specs.declared.error.Refused.{Refused}
use Rattle.wit_text.specs.Places.{column_of, line_of}
use Rattle.witc_read.specs.declared.packages.NamedText.{NamedText}

-- the names of texts
abbrev pub names_of : List NamedText → List (List ℕ)
names_of texts = map (λ t. t.name.now) texts

-- what is there, or nothing
abbrev pub or_nothing : Option (List ℕ) → List ℕ
or_nothing (Some text) = text
or_nothing None = []

-- the name of this number, or nothing
abbrev pub name_in : List (List ℕ) → ℕ → List ℕ
name_in names n = or_nothing (slice_get names n)

-- a text, or nothing where it isn't UTF-8
abbrev pub if_text : List ℕ → List ℕ
if_text text = if is_utf8 text then text else []

-- the text of this number, or nothing where there is none, or it isn't UTF-8
abbrev pub text_in : List (List ℕ) → ℕ → List ℕ
text_in texts n = if_text (name_in texts n)

-- how messages call the text of this number: by its name, or by the number where it has no name
abbrev pub label_of : List (List ℕ) → ℕ → List ℕ
label_of names n = if nat_lt 0 (length (name_in names n)) then name_in names n else codes "text " ++ decimal n

-- The message of a text that is refused at a place: what it is called, the line and the column of the place, and why, in words that are left open.
pub record TellsPlace (names texts : List (List ℕ)) (refused : Refused) (message : List ℕ) : Type 0 where
  pub why : List ℕ
  pub is : message ≡ label_of names refused.text ++ (codes ": line " ++ (decimal (line_of (text_in texts refused.text) refused.at.start)
      ++ (codes ", column " ++ (decimal (column_of (text_in texts refused.text) refused.at.start) ++ (codes ": " ++ why)))))
