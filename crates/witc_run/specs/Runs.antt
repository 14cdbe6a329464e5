-- What a run answers and writes.
use Rattle.std.specs.Prelude.{◌≡◌, ℕ, List, Option, Some, None, Result, MatchResult, Vec, vec_items}
use Rattle.std.specs.Io.KnownBytes.{Appends}
use Rattle.std.specs.declared.alloc.Global.{Global}
use Rattle.witc_run.specs.Answers.{Answers}
use Rattle.witc_run.specs.{Bindings.PrintsBindings, DemoShown.IsDemoDigits, DemoShown.IsDemoText, Printed.PrintsInput, Stripped.StripsInput, Worlds.ComparesInput}
use Rattle.witc_run.specs.Words.{Asked, demo_text, demo_hex, print, module_text, strip, compat}
use Rattle.witc_run.specs.declared.refusal.Refusal.{Refusal}
use Rattle.witc_texts.specs.Lines.{compatible, no_such_world, usage}
use Rattle.witc_texts.specs.declared.comparison.Compared.{Compared}
use Rattle.witc_texts.specs.declared.comparison.Compared.TheVariants as compared

-- This text is what was asked for. The demo's commands leave the reader alone, the others read all that it has left.
abbrev pub IsDone : Option (List ℕ) → Option (List ℕ) → Asked → List ℕ → Type 0
IsDone left rest demo_text text = (rest ≡ left) × IsDemoText text
IsDone left rest demo_hex text = (rest ≡ left) × IsDemoDigits text
IsDone left rest print text = PrintsInput left rest text
IsDone left rest module_text text = PrintsBindings left rest text
IsDone left rest strip text = StripsInput left rest text
IsDone left rest (compat prev new) text = ComparesInput left rest prev new compared.Compatible × (text ≡ compatible)

-- The input is read whole and means a package that has no world of the first name; or it has one, and none of the second.
pub data LacksWorld (left rest : Option (List ℕ)) : Asked → List ℕ → Type 0 where
  no_prev : (prev new : List ℕ) → ComparesInput left rest prev new compared.NoPrev → LacksWorld left rest (compat prev new) prev
  no_new : (prev new : List ℕ) → ComparesInput left rest prev new compared.NoNew → LacksWorld left rest (compat prev new) new

-- What each status says, of what was asked for, what the reader had left before and after, and what the writer held before and after. Of a
-- refusal, and of a write that failed, no more is said than that it is one of the two.
pub data Ends (asked : Option Asked) (left rest old new : Option (List ℕ)) : ℕ → Type 0 where
  done : (what : Asked) (text : List ℕ) → asked ≡ Some what → IsDone left rest what text → Appends old new text → Ends asked left rest old new 0
  refused : Ends asked left rest old new 1
  bad_words : asked ≡ None → rest ≡ left → Appends old new usage → Ends asked left rest old new 2
  lacks_world : (what : Asked) (name : List ℕ) → asked ≡ Some what → LacksWorld left rest what name → Appends old new (no_such_world name)
      → Ends asked left rest old new 2

-- the text is written, or a write failed; of a refusal the status is 1
abbrev pub AnswersText : Option (List ℕ) → Option (List ℕ) → Result (Vec ℕ Global) Refusal → ℕ → Type 0
AnswersText old new text status = MatchResult text (λ t. Answers old new t.items 0 status) (λ refusal. status ≡ 1)

-- so is what came of two names
abbrev pub AnswersNames : Option (List ℕ) → Option (List ℕ) → List ℕ → List ℕ → Compared → ℕ → Type 0
AnswersNames old new prev next compared.Compatible status = Answers old new compatible 0 status
AnswersNames old new prev next compared.NoPrev status = Answers old new (no_such_world prev) 2 status
AnswersNames old new prev next compared.NoNew status = Answers old new (no_such_world next) 2 status
