-- What is answered of WIT texts: the package with which the own ones begin, or why there is none.
use Rattle.std.specs.Prelude.{◌≡◌, ◌<◌, ◌≤◌, ◌++◌, true, min, ℕ, List, codes, length, map}
use Rattle.std.specs.{Fmt.decimal, List.list_all, Str.is_utf8}
use Rattle.wit_model.specs.declared.error.{EntryList.EntryList, Error.Error, Error.TheVariants.Size}
use Rattle.text_names.specs.declared.error.Refused.{Refused}
use Rattle.text_names.specs.declared.error.Fault.TheVariants as faults
use Rattle.wit_text.specs.Texts.{RefusesTexts}
use Rattle.witc_read.specs.{Packages.AreApart, Packages.IsNoText, Packages.IsPackageOf, Packages.RefusesPackage, Places.TellsPlace, Places.label_of}
use Rattle.witc_refusals.specs.Numbers.{nowhere, plain_why}
use Rattle.witc_refusals.specs.declared.why.Why.{Why}
use Rattle.witc_ffi.specs.Answers.{Answers}
use Rattle.witc_ffi.specs.declared.{outcome.Outcome.Outcome, texts.Text.Text}

-- the names of texts
abbrev pub names_in : List Text → List (List ℕ)
names_in texts = map (λ t. t.name.now) texts

-- their bytes
abbrev pub bytes_in : List Text → List (List ℕ)
bytes_in texts = map (λ t. t.bytes.now) texts

-- All names are UTF-8, and what is found has the same names and bytes.
pub record AreNamed (names texts names_found texts_found : List (List ℕ)) : Type 0 where
  pub names_are : names_found ≡ names
  pub texts_are : texts_found ≡ texts
  pub named : list_all is_utf8 names ≡ true

-- All names are UTF-8, and there are as many own texts as are said, one at least.
pub record AreAsked (names texts : List (List ℕ)) (own : ℕ) : Type 0 where
  pub named : list_all is_utf8 names ≡ true
  pub some : 0 < own
  pub within : own ≤ length texts

-- the number of a text, as the detail of a refusal
abbrev pub detail_of : ℕ → ℕ
detail_of n = min n 4294967295

-- a code and the number of the text that it is about
abbrev pub text_why : ℕ → ℕ → Why
text_why code n = record { offset = nowhere; subject = 0; code = code; detail = detail_of n }

abbrev pub no_name_of : ℕ → List ℕ
no_name_of n = codes "the name of text " ++ (decimal n ++ codes " isn't UTF-8")

abbrev pub no_text_of : List (List ℕ) → ℕ → List ℕ
no_text_of names n = label_of names n ++ codes " isn't UTF-8"

abbrev pub bad_count : List ℕ
bad_count = codes "the number of own texts isn't 1 to the number of all texts"

abbrev pub two_packages : List ℕ → List ℕ → List ℕ
two_packages first other = first ++ (codes " and " ++ (other ++ codes " begin with two packages"))

abbrev pub two_packages_of : List (List ℕ) → ℕ → List ℕ
two_packages_of names n = two_packages (label_of names 0) (label_of names n)

-- The bytes are the package with which the own texts begin.
pub record IsTextsPackage (names texts : List (List ℕ)) (own : ℕ) (bytes : List ℕ) : Type 0 where
  pub asked : AreAsked names texts own
  pub is : IsPackageOf texts own bytes

-- Something of the texts is too large; or they are read, and their package is refused by the encoder.
pub data RefusesTextsPackage (names texts : List (List ℕ)) (own : ℕ) : Error → Type 0 where
  too_large : AreAsked names texts own → RefusesTexts texts faults.Size → RefusesTextsPackage names texts own Size
  unencoded : (e : Error) → AreAsked names texts own → RefusesPackage texts own e → RefusesTextsPackage names texts own e

-- A name isn't UTF-8; or, where all are, so many own texts there can't be; or, where neither is so, a text isn't UTF-8.
pub data LacksTexts (names texts : List (List ℕ)) (own : ℕ) : List ℕ → Why → Type 0 where
  no_name : (n : ℕ) → IsNoText names n → LacksTexts names texts own (no_name_of n) (text_why 18 n)
  no_count : list_all is_utf8 names ≡ true → (0 < own → own ≤ length texts → ⊥) → LacksTexts names texts own bad_count (plain_why 25)
  no_text : (n : ℕ) → AreAsked names texts own → IsNoText texts n → LacksTexts names texts own (no_text_of names n) (text_why 18 n)

-- The texts are refused at a place of one of them; or for a rule that what they declare breaks, in words that are left open; or an own one begins with
-- another package than the first.
pub data RefusesNamed (names texts : List (List ℕ)) (own : ℕ) : List ℕ → Why → Type 0 where
  at_place : (refused : Refused) (message : List ℕ) → AreAsked names texts own → RefusesTexts texts (faults.Refused refused)
      → TellsPlace names texts refused message
      → RefusesNamed names texts own message (record { offset = refused.at.start; subject = 0; code = 23; detail = refused.text })
  for_rule : (rule : ℕ) (list : EntryList) (n : ℕ) (message : List ℕ) → AreAsked names texts own → RefusesTexts texts (faults.Broken rule list n)
      → RefusesNamed names texts own message (plain_why 23)
  for_two : (n : ℕ) → AreAsked names texts own → AreApart texts own n → RefusesNamed names texts own (two_packages_of names n) (text_why 24 n)

-- What is answered of texts: as of bytes; or their refusal.
pub data AnswersTexts (names texts : List (List ℕ)) (own : ℕ) (status : ℕ) (text : List ℕ) (why : Why) : Type 0 where
  as_of_bytes : Answers (IsTextsPackage names texts own) (RefusesTextsPackage names texts own) (LacksTexts names texts own) status text why
      → AnswersTexts names texts own status text why
  as_of_texts : status ≡ 1 → RefusesNamed names texts own text why → AnswersTexts names texts own status text why

-- the same of an outcome
abbrev pub TellsTexts : List (List ℕ) → List (List ℕ) → ℕ → Outcome → Type 0
TellsTexts names texts own o = AnswersTexts names texts own o.status o.text.items o.why
