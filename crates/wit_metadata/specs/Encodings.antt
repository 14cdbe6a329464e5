-- The encodings in which strings pass, as bytes (wit-component README, "Custom Section Format").
use Rattle.std.specs.Prelude.{◌≡◌, ◌<◌, ◌==◌, if◌then◌else◌, ℕ, List, [], ◌∷◌, codes, Option, Some, None}
use Rattle.wit_model.specs.declared.model.StringEncoding.{StringEncoding}
use Rattle.wit_model.specs.declared.model.StringEncoding.TheVariants as encodings
use Rattle.wit_model.specs.Text.{Text}

-- the byte that stands for a string encoding
abbrev pub code_of : StringEncoding → ℕ
code_of encodings.UTF8 = 0
code_of encodings.UTF16 = 1
code_of encodings.CompactUTF16 = 2

-- the encoding that a byte stands for
abbrev pub encoding_at : ℕ → Option StringEncoding
encoding_at n = if n == 0 then Some encodings.UTF8 else if n == 1 then Some encodings.UTF16 else if n == 2 then Some encodings.CompactUTF16 else None

-- the name of the custom section that says an encoding
abbrev pub section_name : Text
section_name = codes "wit-component-encoding"

-- what stands in that section: the version of the format, 4, and the byte of the encoding
abbrev pub contents_of : StringEncoding → List ℕ
contents_of e = 4 ∷ code_of e ∷ []

-- The byte of an encoding stands for it, and no byte above 2 stands for one.
abbrev pub CodesAreRead : Type 0
CodesAreRead = ((e : StringEncoding) → encoding_at (code_of e) ≡ Some e) × ((n : ℕ) → 2 < n → encoding_at n ≡ None)
