-- What comes of WIT texts.
use Rattle.std.proofs.Common.{◌≡◌, ℕ, List, sym, subst, refl, Result, Ok, Err, IfOk, MatchResult}
use Rattle.std.specs.declared.alloc.AllocError.{AllocError}
use Rattle.wit_model.specs.declared.error.Error.{Error}
use Rattle.witc_refusals.specs.Numbers.{plain_why}
use Rattle.witc_refusals.specs.declared.why.Why.{Why}
use Rattle.witc_ffi.specs.Answers.{Tells, lacking as answers_lacking}
use Rattle.witc_ffi.specs.Outcomes.{HandsOut, IsOutcome, IsRefusal, handed, lacking}
use Rattle.witc_ffi.specs.Texts.{AnswersTexts, IsTextsPackage, LacksTexts, RefusesNamed, RefusesTextsPackage, TellsTexts, as_of_bytes, as_of_texts}
use Rattle.witc_ffi.specs.declared.outcome.Outcome.{Outcome}
use Rattle.witc_ffi.proofs.OutcomeLaws.{of-bad, of-done, of-refused}

module _ (names texts : List (List ℕ)) (own : ℕ) where
  as-bytes : (r : Result Outcome AllocError) → IfOk r (Tells (IsTextsPackage names texts own) (RefusesTextsPackage names texts own) (LacksTexts names texts own))
      → IfOk r (TellsTexts names texts own)
  as-bytes (Ok o) tells = as_of_bytes tells
  as-bytes (Err lack) tells = tt

  -- the outcome of the package
  pub tells-package : (bytes : List ℕ) (o : Outcome) → IsTextsPackage names texts own bytes → IsOutcome 0 bytes (plain_why 0) o → TellsTexts names texts own o
  tells-package bytes o is outcome =
      as_of_bytes (of-done (IsTextsPackage names texts own) (RefusesTextsPackage names texts own) (LacksTexts names texts own) bytes o is outcome)

  -- the outcome of an argument that is bad
  pub tells-bad : (text : List ℕ) (why : Why) (r : Result Outcome AllocError) → LacksTexts names texts own text why → IfOk r (IsOutcome 2 text why)
      → IfOk r (TellsTexts names texts own)
  tells-bad text why r lacks is = as-bytes r (of-bad (IsTextsPackage names texts own) (RefusesTextsPackage names texts own) (LacksTexts names texts own) text why r lacks is)

  -- the outcome of a refusal
  pub tells-refusal : (e : Error) (r : Result Outcome AllocError) → RefusesTextsPackage names texts own e → IfOk r (IsRefusal e) → IfOk r (TellsTexts names texts own)
  tells-refusal e r refuses is = as-bytes r (of-refused (IsTextsPackage names texts own) (RefusesTextsPackage names texts own) (LacksTexts names texts own) e r refuses is)

  -- the outcome of texts that are refused
  refused-texts : (text : List ℕ) (why : Why) (o : Outcome) → RefusesNamed names texts own text why → o.status ≡ 1 → o.text.items ≡ text → o.why ≡ why
      → TellsTexts names texts own o
  refused-texts text why o refuses status text_is why_is =
      as_of_texts status (subst (λ (w : Why). RefusesNamed names texts own o.text.items w) (sym why_is)
      (subst (λ (t : List ℕ). RefusesNamed names texts own t why) (sym text_is) refuses))

  pub tells-texts : (text : List ℕ) (why : Why) (r : Result Outcome AllocError) → RefusesNamed names texts own text why → IfOk r (IsOutcome 1 text why)
      → IfOk r (TellsTexts names texts own)
  tells-texts text why (Ok o) refuses is = refused-texts text why o refuses is.status_is is.text_is is.why_is
  tells-texts text why (Err lack) refuses is = tt

  -- the outcome of texts that are refused, with the message that it has
  pub tells-some : (why : Why) (P : List ℕ → Type 0) (r : Result Outcome AllocError) → ((text : List ℕ) → P text → RefusesNamed names texts own text why)
      → IfOk r (λ o. P o.text.items) → IfOk r (λ o. o.status ≡ 1) → IfOk r (λ o. o.why ≡ why) → IfOk r (TellsTexts names texts own)
  tells-some why P (Ok o) refuses message status why_is = refused-texts o.text.items why o (refuses o.text.items message) status refl why_is
  tells-some why P (Err lack) refuses message status why_is = tt

  -- the same with any message
  pub tells-any : (why : Why) (r : Result Outcome AllocError) → ((text : List ℕ) → RefusesNamed names texts own text why)
      → IfOk r (λ o. o.status ≡ 1) → IfOk r (λ o. o.why ≡ why) → IfOk r (TellsTexts names texts own)
  tells-any why (Ok o) refuses status why_is = refused-texts o.text.items why o (refuses o.text.items) status refl why_is
  tells-any why (Err lack) refuses status why_is = tt

  given-told : (outcome : Result Outcome AllocError) (o : Outcome) → MatchResult outcome (λ given. given ≡ o) (λ e. ⊥) → IfOk outcome (TellsTexts names texts own)
      → TellsTexts names texts own o
  given-told (Ok x) o is tells = subst (TellsTexts names texts own) is tells
  given-told (Err e) o is tells = absurd is

  -- C is told it
  pub passes-texts : (outcome : Result Outcome AllocError) (status : ℕ) (text : List ℕ) (why : Why) → IfOk outcome (TellsTexts names texts own) → HandsOut outcome status text why
      → AnswersTexts names texts own status text why
  passes-texts outcome status text why tells lacking = as_of_bytes answers_lacking
  passes-texts outcome status text why tells (handed o is) = given-told outcome o is tells
