-- The encoding that a component says (wit-component README, "Custom Section Format").
use Rattle.std.specs.Prelude.{◌≡◌, ◌==◌, if◌then◌else◌, ℕ, List, [], ◌∷◌, Option, Some, None, option_map, Result, Ok, Err}
use Rattle.std.specs.Borrow.{Bor}
use Rattle.wit_model.specs.declared.{error.Error.Error, model.StringEncoding.StringEncoding}
use Rattle.comp_bytes.specs.{Frames.IsCustom, Raw.Section, Spelling.IsComponent}
use Rattle.wit_metadata.specs.{Carried.CarriesEncoding, Carried.contents_under, Carried.last_of, Encodings.encoding_at, Encodings.section_name, Modules.Framed}
use Rattle.wit_model.specs.declared.error.Error.TheVariants as errors

-- what a code says, if it stands for an encoding
abbrev pub said_by_code : ℕ → Option StringEncoding → Result StringEncoding Error
said_by_code code (Some e) = Ok e
said_by_code code None = Err (errors.BadStringEncoding code)

-- what the contents of the section say, if there is one: 4 and a code, and no other format
abbrev pub said_by : Option (List ℕ) → Result StringEncoding Error
said_by None = Err errors.EncodingMissing
said_by (Some []) = Err errors.EncodingUnknownFormat
said_by (Some (b ∷ [])) = Err (errors.EncodingVersion b)
said_by (Some (b ∷ code ∷ [])) = if b == 4 then said_by_code code (encoding_at code) else Err (errors.EncodingVersion b)
said_by (Some (b ∷ code ∷ c ∷ rest)) = Err (errors.EncodingVersion b)

-- What is answered of a component: what the last of its custom sections of that name says.
abbrev pub AnswersSaid : List ℕ → Result StringEncoding Error → Type 0
AnswersSaid bytes answer = (sections : List Section) → IsComponent sections bytes → answer ≡ said_by (last_of (contents_under section_name sections))

-- So the encoding that a component carries is the one that is answered of it.
abbrev pub EncodingsAreReadBack : Type 0
EncodingsAreReadBack = (e : StringEncoding) (bytes : List ℕ) (answer : Result StringEncoding Error) → CarriesEncoding e bytes → AnswersSaid bytes answer
    → answer ≡ Ok e

-- ---- its parts

-- a custom section of that name, and what stands behind it
abbrev pub IsSaidIn : Framed → Option (Bor (List ℕ)) → Type 0
IsSaidIn f (Some found) = (f.0 ≡ 0) × IsCustom (section_name, found.now) f.1
IsSaidIn f None = f.0 ≡ 0 → (found : List ℕ) → IsCustom (section_name, found) f.1 → ⊥

abbrev pub HasContents : Option (List ℕ) → Result (Option (Bor (List ℕ))) Error → Type 0
HasContents found (Ok last) = option_map (λ (b : Bor (List ℕ)). b.now) last ≡ found
HasContents found (Err e) = ⊥

abbrev pub AnswersContents : List ℕ → Result (Option (Bor (List ℕ))) Error → Type 0
AnswersContents bytes answer = (sections : List Section) → IsComponent sections bytes → HasContents (last_of (contents_under section_name sections)) answer
