-- What the answers of the commands come to.
use Rattle.std.proofs.Common.{◌≡◌, ℕ, List, refl, sym, subst, Option, Some, None, Result, Ok, Err, IfOk, MatchResult, Vec}
use Rattle.std.specs.declared.alloc.Global.{Global}
use Rattle.witc_run.specs.{Answers.Answers, Answers.failed, Answers.written, Words.Asked, Words.compat, Worlds.ComparesInput}
use Rattle.witc_run.specs.Runs.{AnswersNames, AnswersText, Ends, IsDone, LacksWorld, bad_words, done, lacks_world, no_new, no_prev, refused}
use Rattle.witc_run.specs.declared.refusal.Refusal.{Refusal}
use Rattle.witc_texts.specs.Lines.{compatible, no_such_world, usage}
use Rattle.witc_texts.specs.declared.comparison.Compared.{Compared}
use Rattle.witc_texts.specs.declared.comparison.Compared.TheVariants as compared

-- what is true of each value is true of an answer

module _ (left rest old new : Option (List ℕ)) where
  written-ends : (what : Asked) (text : List ℕ) (status : ℕ) → IsDone left rest what text → Answers old new text 0 status → Ends (Some what) left rest old new status
  written-ends what text _ is failed = refused
  written-ends what text _ is (written appended) = done what text refl is appended

  lacks : (what : Asked) (name : List ℕ) (status : ℕ) → LacksWorld left rest what name → Answers old new (no_such_world name) 2 status → Ends (Some what) left rest old new status
  lacks what name _ is failed = refused
  lacks what name _ is (written appended) = lacks_world what name refl is appended

  -- a text of a command
  pub text-ends : (what : Asked) (text : Result (Vec ℕ Global) Refusal) (status : ℕ) → IfOk text (λ t. IsDone left rest what t.items) → AnswersText old new text status
      → Ends (Some what) left rest old new status
  text-ends what (Ok t) status is answered = written-ends what t.items status is answered
  text-ends what (Err refusal) status is one = subst (Ends (Some what) left rest old new) (sym one) refused

  -- what came of two names
  pub names-end : (prev next : List ℕ) (c : Result Compared Refusal) (status : ℕ) → IfOk c (ComparesInput left rest prev next)
      → MatchResult c (λ c. AnswersNames old new prev next c status) (λ refusal. status ≡ 1) → Ends (Some (compat prev next)) left rest old new status
  names-end prev next (Ok compared.Compatible) status is answered = written-ends (compat prev next) compatible status (is, refl) answered
  names-end prev next (Ok compared.NoPrev) status is answered = lacks (compat prev next) prev status (no_prev prev next is) answered
  names-end prev next (Ok compared.NoNew) status is answered = lacks (compat prev next) next status (no_new prev next is) answered
  names-end prev next (Err refusal) status is one = subst (Ends (Some (compat prev next)) left rest old new) (sym one) refused

  -- words that are no command
  pub usage-ends : (words : Option Asked) (status : ℕ) → words ≡ None → rest ≡ left → Answers old new usage 2 status → Ends words left rest old new status
  usage-ends words _ none same failed = refused
  usage-ends words _ none same (written appended) = bad_words none same appended
