-- Why a word answers nothing to its files.
use Rattle.std.specs.Prelude.{◌≡◌, ◌⊎◌, ◌++◌, ℕ, Bool, true, false, Any, List, [], ◌∷◌, length, nat_eq, None, Option, Some, Vec}
use Rattle.std.specs.Borrow.{Bor}
use Rattle.std.specs.declared.alloc.Global.{Global}
use Rattle.wit_component.specs.{DecodedWorlds.RefusesWorldBytes, Reached.OutgrowsLists}
use Rattle.wit_metadata.specs.Modules.{IsFrontData, IsFrontless, IsNoModule, module_preamble}
use Rattle.wit_model.specs.declared.error.Error.{Error}
use Rattle.teasel_answers.specs.{Answers.encoding_of, Answers.is_answer_no, Answers.pair_of, Checks.RefusesModule, Forms.Shows, Forms.ShowsNothing, Worlds.HasNoOneWorld, Worlds.IsChosen, Worlds.last_of}
use Rattle.teasel_answers.specs.declared.forms.Form.TheVariants as forms
use Rattle.teasel_texts.specs.declared.input.Input.{Input}
use Rattle.teasel_messages.specs.{Looks.begins_as_module, Reasons.is_memory}
use Rattle.teasel_words.specs.{Choices.shell_named, Given.Given, Table.Text, Table.all_words, Table.first_word}
use Rattle.teasel_words.specs.declared.table.Word.{Word}
use Rattle.teasel_words.specs.declared.table.Word.TheVariants as words
use Rattle.witc_texts.specs.Worlds.{ComparesBytes, RefusesCompared}
use Rattle.witc_texts.specs.declared.comparison.Compared.TheVariants as compared
use Rattle.witc_written.specs.Carried.{HasNoWorld, RefusesAttached}

-- `strip`: the file is no WebAssembly; or the module is refused, and not for want of memory
pub data StripsNothing (i : Input) : Type 0 where
  foreign : i.whole ≡ false → StripsNothing i
  refused : (e : Error) → is_memory e ≡ false → RefusesModule i.bytes.items e → StripsNothing i

-- `kind`: a list of what a module binds would get too long
abbrev pub Outgrows : Input → Type 0
Outgrows i = OutgrowsLists i.bytes.items

-- A pair of worlds isn't compared: the first or the second isn't there; or they are refused, and neither for want of memory nor as the answer no.
pub data ComparesNoPair (bytes prev next : Text) : Type 0 where
  no_prev : ComparesBytes bytes prev next compared.NoPrev → ComparesNoPair bytes prev next
  no_next : ComparesBytes bytes prev next compared.NoNew → ComparesNoPair bytes prev next
  refused_pair : (e : Error) → is_memory e ≡ false → is_answer_no e ≡ false → RefusesCompared bytes prev next e → ComparesNoPair bytes prev next

-- the same of a pair by its value
abbrev pub fails_pair : List ℕ → Text → Type 0
fails_pair bytes t = ComparesNoPair bytes (pair_of t).0 (pair_of t).1

-- `compat`: the file is no WebAssembly; or no worlds are named; or a pair of those isn't compared
pub data ComparesNothing (g : Given) (i : Input) : Type 0 where
  foreign_package : i.whole ≡ false → ComparesNothing g i
  no_worlds : length g.worlds ≡ 0 → ComparesNothing g i
  no_pair : Any (fails_pair i.bytes.items) g.worlds → ComparesNothing g i

-- `diff`: one of the two files has no text
abbrev pub DiffersFromNothing : Given → Input → Input → Type 0
DiffersFromNothing g old new = ShowsNothing (forms.Text g.most) g.kind old ⊎ ShowsNothing (forms.Text g.most) g.kind new

-- Why a world of the package that these bytes are isn't put into a module. None is named, and there isn't just one; or there is none of the name; or what
-- becomes of the two is refused, and not for want of memory.
pub data AttachesNothing (g : Given) (m : Input) (bytes : List ℕ) : Type 0 where
  unchosen : last_of g.worlds ≡ None → HasNoOneWorld bytes → AttachesNothing g m bytes
  no_world : (name : Text) → IsChosen g.worlds bytes name → HasNoWorld bytes name → AttachesNothing g m bytes
  unattached : (name : Text) (e : Error) → IsChosen g.worlds bytes name → is_memory e ≡ false
      → RefusesAttached m.bytes.items bytes name (encoding_of g.encoding) false e → AttachesNothing g m bytes

-- No package is made of a file: it begins as a core module; or nothing is made of it.
pub data BringsNothing (p : Input) : Type 0 where
  second_module : begins_as_module p.bytes.items ≡ true → BringsNothing p
  no_bytes : ShowsNothing forms.Wasm None p → BringsNothing p

-- `embed`: the first file is no WebAssembly, or no module; no package is made of the second; or its world isn't put into the module
pub data EmbedsNothing (g : Given) (m p : Input) : Type 0 where
  foreign_module : m.whole ≡ false → EmbedsNothing g m p
  no_module : begins_as_module m.bytes.items ≡ false → EmbedsNothing g m p
  nothing_brought : BringsNothing p → EmbedsNothing g m p
  nothing_attached : (bytes : Vec ℕ Global) → Shows forms.Wasm None p bytes → AttachesNothing g m bytes.items → EmbedsNothing g m p

-- These bytes are left of others once some sections in front are taken away.
pub data IsLeft (bytes : List ℕ) : List ℕ → Type 0 where
  all_left : IsLeft bytes bytes
  one_less : {rest behind : List ℕ} (found : Option (Bor (List ℕ))) → IsLeft bytes rest → IsFrontData rest found behind → IsLeft bytes behind

-- No section is listed of what is left: none stands in front; or the first one contains a world that can't be read, and not for want of memory.
pub data ListsNoFront (rest : List ℕ) : Type 0 where
  frontless : IsFrontless rest → ListsNoFront rest
  unreadable : (world : Bor (List ℕ)) (behind : List ℕ) (e : Error) → IsFrontData rest (Some world) behind → is_memory e ≡ false → RefusesWorldBytes world.now e
      → ListsNoFront rest

-- The sections of these bytes aren't listed: they don't begin as a core module; or something is left of which no section is listed.
pub data HasNoList (bytes : List ℕ) : Type 0 where
  no_preamble : IsNoModule bytes → HasNoList bytes
  no_front : (sections rest : List ℕ) → bytes ≡ module_preamble ++ sections → IsLeft sections rest → ListsNoFront rest → HasNoList bytes

-- `sections`: the file is no WebAssembly, or its sections aren't listed
pub data ListsNothing (i : Input) : Type 0 where
  foreign_file : i.whole ≡ false → ListsNothing i
  no_list : HasNoList i.bytes.items → ListsNothing i

-- `help`: the file names no word
abbrev pub ExplainsNothing : List Text → Type 0
ExplainsNothing [] = ⊥
ExplainsNothing (name ∷ names) = first_word all_words name ≡ None

-- `completion`: no shell is named, or there is none of the name
abbrev pub CompletesNothing : List Text → Type 0
CompletesNothing [] = Unit {0}
CompletesNothing (name ∷ names) = shell_named name ≡ None

-- Why a word answers nothing to the files that it takes.
abbrev pub AnswersNothingTo : Word → Given → List Input → Type 0
AnswersNothingTo words.Text g (i ∷ []) = ShowsNothing (forms.Text g.most) g.kind i
AnswersNothingTo words.Json g (i ∷ []) = ShowsNothing forms.Json g.kind i
AnswersNothingTo words.Wasm g (i ∷ []) = ShowsNothing forms.Wasm g.kind i
AnswersNothingTo words.Kind g is = Any Outgrows is
AnswersNothingTo words.Compat g (i ∷ []) = ComparesNothing g i
AnswersNothingTo words.Diff g (old ∷ new ∷ []) = DiffersFromNothing g old new
AnswersNothingTo words.Embed g (m ∷ p ∷ []) = EmbedsNothing g m p
AnswersNothingTo words.Strip g (i ∷ []) = StripsNothing i
AnswersNothingTo words.Sections g (i ∷ []) = ListsNothing i
AnswersNothingTo words.Help g is = ExplainsNothing g.files
AnswersNothingTo words.Completion g is = CompletesNothing g.files
AnswersNothingTo _ g is = ⊥

-- the same where the word isn't to be explained, which is refused for want of memory alone
abbrev pub AnswersNothingUnless : Bool → Given → List Input → Type 0
AnswersNothingUnless true g is = ⊥
AnswersNothingUnless false g is = AnswersNothingTo g.word_ g is

-- why nothing is answered to what is asked for
abbrev pub AnswersNothing : Given → List Input → Type 0
AnswersNothing g is = AnswersNothingUnless g.help g is

-- ---- how many files are answered to

-- whether a word takes so many
abbrev pub takes : Word → ℕ → Bool
takes words.Kind n = true
takes words.Check n = true
takes words.Diff n = nat_eq n 2
takes words.Embed n = nat_eq n 2
takes words.Completion n = true
takes words.Man n = true
takes words.Help n = true
takes words.Version n = true
takes _ n = nat_eq n 1

-- there are as many files as the word takes, unless it is to be explained
abbrev pub HasItsFiles : Given → List Input → Type 0
HasItsFiles g is = g.help ≡ false → takes g.word_ (length is) ≡ true
