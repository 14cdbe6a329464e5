-- What a run answers, writes and returns.
use Rattle.std.specs.Prelude.{◌≡◌, ◌⊎◌, ◌<◌, ℕ, Bool, true, false, ◌&&◌, is_none, Any, List, codes, count_by, length, map, Option, Some, Result, Ok, Err, Vec}
use Rattle.std.specs.declared.alloc.Global.{Global}
use Rattle.std.specs.Str.{IsUtf8}
use Rattle.teasel_answers.specs.{Answers.Answers, Refusals.AnswersNothing}
use Rattle.teasel_files.specs.{Contents.files_of, Delivered.IsDelivered, Folders.AreRead, Folders.IsUnread}
use Rattle.teasel_files.specs.declared.{answer.Answer.Answer, setting.Setting.Setting, source.Source.Source}
use Rattle.teasel_messages.specs.{Reasons.RefusedFor, declared.faults.ReadFault.ReadFault, declared.refusal.Refusal.Refusal}
use Rattle.teasel_texts.specs.{Made.AreTaken, declared.input.Input.Input}
use Rattle.teasel_words.specs.{Given.Given, Spelling.IsMisspelt, Spelling.Spells, Table.Text, Table.is_same}
use Rattle.teasel_words.specs.declared.choices.Color.{Color}
use Rattle.teasel_words.specs.declared.choices.Color.TheVariants as colors

-- 0 for yes, and 1 for no
abbrev pub status_of : Bool → ℕ
status_of true = 0
status_of false = 1

-- whether an answer is coloured: as it is said, or where it goes to a terminal that is
abbrev pub colored_by : Color → Option Text → Setting → Bool
colored_by colors.Always output s = true
colored_by colors.Never output s = false
colored_by colors.Auto output s = s.color && (s.out_terminal && is_none output)

-- The inputs are what is read of the files and folders of these names, with the package that they declare in the place of each text and each folder.
pub record AreInputs (holds : Text → List ℕ → Type 0) (lists : Text → List Text → List Text → Type 0) (names : List Text) (inputs : List Input)
    : Type 0 where
  pub found : List Source
  pub read : AreRead holds lists names found
  pub taken : AreTaken found inputs

-- What is asked for is answered: its files are read, the word answers to them, yes or no, and the answer goes where it is to go.
pub record Carries {State : Type 0} (holds : State → Text → List ℕ → Type 0) (lists : State → Text → List Text → List Text → Type 0)
    (puts : State → Text → List ℕ → State → Type 0) (s : Setting) (g : Given) (old new : State) (before after : Option (List ℕ)) (fits : Bool) : Type 0 where
  pub inputs : List Input
  pub read : AreInputs (holds old) (lists old) (files_of g) inputs
  pub answer : Answer
  pub answers : Answers g (colored_by g.color g.output s) inputs answer
  pub is : answer.yes ≡ fits
  pub delivered : IsDelivered puts g answer.text.items old new before after

-- ---- why nothing is answered

-- whether a name is that of standard input
abbrev pub is_input : Text → Bool
is_input name = is_same name (codes "-")

-- a file that is to be read or written has an empty name
abbrev pub HasNameless : Given → Type 0
HasNameless g = Any (λ name. length name ≡ 0) g.files ⊎ ((name : Text) × (g.output ≡ Some name) × (length name ≡ 0))

-- Why what is asked for isn't done: a name is empty; standard input is named twice; a file or a folder can't be read; the word answers nothing to the files;
-- or it answers, and that isn't written.
pub data Stops {State : Type 0} (holds : State → Text → List ℕ → Type 0) (fails : State → Text → ReadFault → Type 0)
    (lists : State → Text → List Text → List Text → Type 0) (unlisted : State → Text → ReadFault → Type 0) (s : Setting) (g : Given) (old : State)
    : Type 0 where
  nameless : HasNameless g → Stops holds fails lists unlisted s g old
  named_twice : 1 < count_by is_input g.files → Stops holds fails lists unlisted s g old
  unread : Any (IsUnread (fails old) (lists old) (unlisted old)) (files_of g) → Stops holds fails lists unlisted s g old
  unanswered : (inputs : List Input) → AreInputs (holds old) (lists old) (files_of g) inputs → AnswersNothing g inputs
      → Stops holds fails lists unlisted s g old
  unwritten : (inputs : List Input) (a : Answer) → AreInputs (holds old) (lists old) (files_of g) inputs → Answers g (colored_by g.color g.output s) inputs a
      → Stops holds fails lists unlisted s g old

-- a word is no text
abbrev pub IsNoText : Text → Type 0
IsNoText word = IsUtf8 word → ⊥

-- Why words aren't answered: one is no text; they ask for nothing; or they ask for something that isn't done.
pub data IsStopped {State : Type 0} (holds : State → Text → List ℕ → Type 0) (fails : State → Text → ReadFault → Type 0)
    (lists : State → Text → List Text → List Text → Type 0) (unlisted : State → Text → ReadFault → Type 0) (s : Setting) (words : List Text) (old : State)
    : Type 0 where
  no_text : Any IsNoText words → IsStopped holds fails lists unlisted s words old
  misspelt : IsMisspelt words → IsStopped holds fails lists unlisted s words old
  stopped : (g : Given) → Spells words g → Stops holds fails lists unlisted s g old → IsStopped holds fails lists unlisted s words old

-- The words ask for something that is answered so; or something is refused, for want of memory or for such a reason, and all files are as they were.
abbrev pub Runs : {State : Type 0} → (State → Text → List ℕ → Type 0) → (State → Text → ReadFault → Type 0) → (State → Text → List Text → List Text → Type 0)
    → (State → Text → ReadFault → Type 0) → (State → Text → List ℕ → State → Type 0) → Setting → List Text → State → State → Option (List ℕ)
    → Option (List ℕ) → Result Bool Refusal → Type 0
Runs holds fails lists unlisted puts s words old new before after (Ok fits) =
    (g : Given) × Spells words g × Carries holds lists puts s g old new before after fits
Runs holds fails lists unlisted puts s words old new before after (Err refusal) =
    (new ≡ old) × RefusedFor (IsStopped holds fails lists unlisted s words old) refusal

-- the exit status of what came of it: 0 for yes, 1 for no, and 2 where something is refused
abbrev pub status_by : Result Bool Refusal → ℕ
status_by (Ok fits) = status_of fits
status_by (Err refusal) = 2

-- words as texts
abbrev pub bytes_of : List (Vec ℕ Global) → List Text
bytes_of words = map (λ w. w.items) words
