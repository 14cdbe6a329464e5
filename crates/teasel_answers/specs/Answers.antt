-- What each word answers to its files.
use Rattle.std.specs.Prelude.{◌≡◌, ◌≢◌, ℕ, Bool, true, false, List, [], ◌∷◌, Option, None, Some, Vec, if◌then◌else◌}
use Rattle.std.specs.List.{after_first, before_first}
use Rattle.std.specs.declared.alloc.Global.{Global}
use Rattle.wit_model.specs.declared.{error.Error.Error, model.StringEncoding.StringEncoding}
use Rattle.wit_model.specs.declared.error.Error.TheVariants as errors
use Rattle.wit_model.specs.declared.model.StringEncoding.TheVariants as strings
use Rattle.line_diff.specs.{Script.LeadsTo, Unified.unified_text}
use Rattle.line_diff.specs.declared.script.Edit.{Edit}
use Rattle.teasel_answers.specs.{Checks.IsChecked, Forms.Shows, Kinds.IsKnown, Worlds.IsChosen}
use Rattle.teasel_answers.specs.declared.forms.Form.{Form}
use Rattle.teasel_answers.specs.declared.forms.Form.TheVariants as forms
use Rattle.teasel_files.specs.AllTell.{AllTell}
use Rattle.teasel_files.specs.declared.answer.Answer.{Answer}
use Rattle.teasel_texts.specs.declared.input.Input.{Input}
use Rattle.teasel_words.specs.{Given.Given, Given.has_equals, Given.is_equals, Table.Text}
use Rattle.teasel_words.specs.declared.choices.Encoding.{Encoding}
use Rattle.teasel_words.specs.declared.choices.Encoding.TheVariants as encodings
use Rattle.teasel_words.specs.declared.table.Word.{Word}
use Rattle.teasel_words.specs.declared.table.Word.TheVariants as words
use Rattle.witc_texts.specs.{Stripped.StripsBytes, Worlds.ComparesBytes, Worlds.RefusesCompared}
use Rattle.witc_texts.specs.declared.comparison.Compared.TheVariants as compared
use Rattle.witc_written.specs.Carried.{AttachesWorld}

-- a string encoding by its name
abbrev pub encoding_of : Encoding → StringEncoding
encoding_of encodings.Utf8 = strings.UTF8
encoding_of encodings.Utf16 = strings.UTF16
encoding_of encodings.Latin1Utf16 = strings.CompactUTF16

-- whether a refusal of a comparison is the answer no
abbrev pub is_answer_no : Error → Bool
is_answer_no errors.OtherPackage = true
is_answer_no (errors.TwiceWithoutVersion name) = true
is_answer_no (errors.Missing name) = true
is_answer_no (errors.Differs name) = true
is_answer_no _ = false

-- `text`, `json`, `wasm`: yes, and the text, the listing or the bytes
abbrev pub Writes : Form → Given → Input → Answer → Type 0
Writes form g i a = (a.yes ≡ true) × Shows form g.kind i a.text

-- `strip`: yes, and the module without the sections that contain worlds
pub record Strips (i : Input) (a : Answer) : Type 0 where
  pub whole : i.whole ≡ true
  pub yes : a.yes ≡ true
  pub strips : StripsBytes i.bytes.items a.text.items

-- yes and no text where nothing is made, no and that text where something is
abbrev pub IsTold : Option (Vec ℕ Global) → Answer → Type 0
IsTold None a = (a.yes ≡ true) × (a.text.items ≡ [])
IsTold (Some t) a = (a.yes ≡ false) × (a.text.items ≡ t.items)

-- What comes of two texts: yes and nothing where they are equal; or no, and a script of edits that leads from the old one to the new one, in the unified form.
pub data IsDifference (old_name new_name : Text) (old new : List ℕ) (color : Bool) (a : Answer) : Type 0 where
  alike : a.yes ≡ true → a.text.items ≡ [] → old ≡ new → IsDifference old_name new_name old new color a
  unlike : a.yes ≡ false → old ≢ new → (script : List Edit) → LeadsTo script old new → a.text.items ≡ unified_text color old_name new_name script
      → IsDifference old_name new_name old new color a

-- `diff`: yes where the texts of the two files are equal, no and their difference where they aren't
pub record Differs (g : Given) (color : Bool) (old new : Input) (a : Answer) : Type 0 where
  pub old_text : Vec ℕ Global
  pub new_text : Vec ℕ Global
  pub old_is : Shows (forms.Text g.most) g.kind old old_text
  pub new_is : Shows (forms.Text g.most) g.kind new new_text
  pub difference : IsDifference old.name.now new.name.now old_text.items new_text.items color a

-- yes, and the module with one more section, which carries the world of the package of these bytes that is chosen
pub record Attaches (g : Given) (module_ : Input) (bytes : List ℕ) (a : Answer) : Type 0 where
  pub yes : a.yes ≡ true
  pub name : Text
  pub chosen : IsChosen g.worlds bytes name
  pub attaches : AttachesWorld module_.bytes.items bytes name (encoding_of g.encoding) false a.text.items

-- `embed`: the same of the package that the second file means, or of the package of the one world that it means
pub record Embeds (g : Given) (module_ package_ : Input) (a : Answer) : Type 0 where
  pub whole : module_.whole ≡ true
  pub bytes : Vec ℕ Global
  pub is : Shows forms.Wasm None package_ bytes
  pub attaches : Attaches g module_ bytes.items a

-- the second world can replace the first, or it can't: then that is why the comparison is refused
abbrev pub IsCompared : List ℕ → Text → Text → Bool → Type 0
IsCompared bytes prev next true = ComparesBytes bytes prev next compared.Compatible
IsCompared bytes prev next false = (e : Error) × RefusesCompared bytes prev next e × (is_answer_no e ≡ true)

-- the names of two worlds: those around a `=`, or one name for both
abbrev pub pair_of : Text → Text × Text
pair_of t = if has_equals t then (before_first is_equals t, after_first is_equals t) else (t, t)

-- the same of a pair
abbrev pub tells_pair : List ℕ → Text → Bool → Type 0
tells_pair bytes t = IsCompared bytes (pair_of t).0 (pair_of t).1

-- `compat`: for each pair of worlds in order, whether the second can replace the first; yes where each can
pub record Compares (g : Given) (i : Input) (a : Answer) : Type 0 where
  pub whole : i.whole ≡ true
  pub compared_ : AllTell (tells_pair i.bytes.items) g.worlds true a.yes

-- `sections`: yes, of a file that is whole
abbrev pub IsListed : Input → Answer → Type 0
IsListed i a = (i.whole ≡ true) × (a.yes ≡ true)

-- what each word answers to the files that it takes: words about no file say yes
abbrev pub AnswersTo : Word → Given → Bool → List Input → Answer → Type 0
AnswersTo words.Text g color (i ∷ []) a = Writes (forms.Text g.most) g i a
AnswersTo words.Json g color (i ∷ []) a = Writes forms.Json g i a
AnswersTo words.Wasm g color (i ∷ []) a = Writes forms.Wasm g i a
AnswersTo words.Kind g color is a = AllTell IsKnown is true a.yes
AnswersTo words.Check g color is a = AllTell IsChecked is true a.yes
AnswersTo words.Compat g color (i ∷ []) a = Compares g i a
AnswersTo words.Diff g color (old ∷ new ∷ []) a = Differs g color old new a
AnswersTo words.Embed g color (m ∷ p ∷ []) a = Embeds g m p a
AnswersTo words.Strip g color (i ∷ []) a = Strips i a
AnswersTo words.Sections g color (i ∷ []) a = IsListed i a
AnswersTo words.Help g color is a = a.yes ≡ true
AnswersTo words.Completion g color is a = a.yes ≡ true
AnswersTo words.Man g color is a = a.yes ≡ true
AnswersTo words.Version g color is a = a.yes ≡ true
AnswersTo _ g color is a = ⊥

-- the same where the word isn't to be explained, which is yes too
abbrev pub AnswersUnless : Bool → Given → Bool → List Input → Answer → Type 0
AnswersUnless true g color is a = a.yes ≡ true
AnswersUnless false g color is a = AnswersTo g.word_ g color is a

-- what is answered to what is asked for
abbrev pub Answers : Given → Bool → List Input → Answer → Type 0
Answers g color is a = AnswersUnless g.help g color is a
