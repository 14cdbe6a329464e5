-- What C is given of what comes of a call.
use Rattle.std.proofs.Common.{rules as std_rules, ◌≡◌, ◌≤◌, ◌&&◌, ℕ, length, List, [], Bool, true, false, refl, sym, subst, Option, Some, None, Result, Ok, Err, IfOk, MatchResult}
use Rattle.std.specs.{Prelude.Vec, Prelude.IfErr, Str.is_utf8}
use Rattle.std.specs.declared.alloc.{AllocError.AllocError, Global.Global}
use Rattle.wit_model.specs.declared.error.Error.{Error}
use Rattle.witc_refusals.specs.{Messages.message_of, Numbers.plain_why, Numbers.why_of}
use Rattle.witc_refusals.specs.declared.why.Why.{Why}
use Rattle.witc_within.specs.Within.{TextWithin}
use Rattle.witc_within.specs.declared.texts.Within.{Within}
use Rattle.witc_within.specs.declared.texts.Within.TheVariants as within
use Rattle.witc_ffi.specs.Answers.{AnswersWithin, IsOutcomeWithin, NeverBad, beyond, within_bound}
use Rattle.witc_ffi.specs.Answers.{Answers, AreAlike, AreTexts, IsCompatible, IsOutcomeIfThere, LacksEither, LacksWorld, RefusesAlike, RefusesWorlds, Tells, bad, done, lacking as answers_lacking, no_such_world, refused, world_why}
use Rattle.witc_ffi.specs.Outcomes.{HandsOut, IsOutcome, IsOutcomeOf, IsRefusal, handed, lacking}
use Rattle.witc_ffi.specs.declared.outcome.Outcome.{Outcome}

-- no bytes, where memory runs out
pub lacks : (outcome : Result Outcome AllocError) (text : List ℕ) (why : Why) → text ≡ [] → why ≡ plain_why 1 → HandsOut outcome 3 text why
lacks outcome text why is numbers = subst (λ (t : List ℕ). HandsOut outcome 3 t why) (sym is) (subst (HandsOut outcome 3 []) (sym numbers) lacking)

-- the outcome's status, bytes and numbers
pub hands : (outcome : Result Outcome AllocError) (status : ℕ) (text : List ℕ) (why : Why)
    → MatchResult outcome (λ o. (status ≡ o.status) × (text ≡ o.text.items) × (why ≡ o.why)) (λ e. ⊥) → HandsOut outcome status text why
hands (Ok o) status text why is = subst (λ (n : ℕ). HandsOut (Ok o) n text why) (sym is.0)
    (subst (λ (t : List ℕ). HandsOut (Ok o) o.status t why) (sym is.1) (subst (HandsOut (Ok o) o.status o.text.items) (sym is.2) (handed o refl)))
hands (Err e) status text why is = absurd is

module _ (Done : List ℕ → Type 0) (Refused : Error → Type 0) (Bad : List ℕ → Why → Type 0) where
  -- what an outcome tells, C is told; and it is told when memory runs out
  pub passes : (outcome : Result Outcome AllocError) (status : ℕ) (text : List ℕ) (why : Why)
      → IfOk outcome (Tells Done Refused Bad) → HandsOut outcome status text why → Answers Done Refused Bad status text why
  passes outcome status text why tells lacking = answers_lacking
  passes outcome status text why tells (handed o is) = search std_rules

  -- what is true of a status, a text and numbers is true of the outcome of them
  pub known : (status : ℕ) (text : List ℕ) (why : Why) (o : Outcome) → Answers Done Refused Bad status text why → IsOutcome status text why o → Tells Done Refused Bad o
  known status text why o holds is = search std_rules

  -- the outcome of a call that is done
  pub of-done : (text : List ℕ) (o : Outcome) → Done text → IsOutcome 0 text (plain_why 0) o → Tells Done Refused Bad o
  of-done text o holds is = known 0 text (plain_why 0) o (done text holds) is

  -- the outcome of a refusal
  pub of-refused : (e : Error) (r : Result Outcome AllocError) → Refused e → IfOk r (IsRefusal e) → IfOk r (Tells Done Refused Bad)
  of-refused e (Ok o) holds is = known 1 (message_of e) (why_of e) o (refused e holds is.no_lack) is.is
  of-refused e (Err lack) holds is = tt

  -- the outcome of an argument that is bad
  pub of-bad : (text : List ℕ) (why : Why) (r : Result Outcome AllocError) → Bad text why → IfOk r (IsOutcome 2 text why) → IfOk r (Tells Done Refused Bad)
  of-bad text why (Ok o) holds is = known 2 text why o (bad text why holds) is
  of-bad text why (Err lack) holds is = tt

  -- the outcome of bytes, or of a refusal
  pub of-bytes : (given : Result (Vec ℕ Global) Error) (r : Result Outcome AllocError) → IfOk given (λ text. Done text.items) → IfErr given Refused → IfOk r (IsOutcomeOf given)
      → IfOk r (Tells Done Refused Bad)
  of-bytes (Ok text) (Ok o) ok err is = of-done text.items o ok is
  of-bytes (Err e) (Ok o) ok err is = known 1 (message_of e) (why_of e) o (refused e err is.no_lack) is.is
  of-bytes given (Err lack) ok err is = tt

  -- the outcome of bytes that are there only where a world is
  pub if-there : (name : List ℕ) (There : Option (Vec ℕ Global) → Type 0) (given : Result (Option (Vec ℕ Global)) Error) (r : Result Outcome AllocError)
      → ((text : Vec ℕ Global) → There (Some text) → Done text.items) → (There None → Bad (no_such_world name) (world_why name))
      → IfOk given There → IfErr given Refused → IfOk r (IsOutcomeIfThere name given) → IfOk r (Tells Done Refused Bad)
  if-there name There (Ok (Some text)) (Ok o) some none ok err is = of-done text.items o (some text ok) is
  if-there name There (Ok None) (Ok o) some none ok err is = known 2 (no_such_world name) (world_why name) o (bad (no_such_world name) (world_why name) (none ok)) is
  if-there name There (Err e) (Ok o) some none ok err is = known 1 (message_of e) (why_of e) o (refused e err is.no_lack) is.is
  if-there name There given (Err lack) some none ok err is = tt

-- what a text up to a bound, or a refusal, tells
abbrev TellsWithin : (List ℕ → Type 0) → (Error → Type 0) → ℕ → Outcome → Type 0
TellsWithin Is Refused most o = AnswersWithin Is Refused most o.status o.text.items o.why

module _ (Is : List ℕ → Type 0) (Refused : Error → Type 0) (most : ℕ) where
  abbrev Short : List ℕ → Type 0
  Short text = Is text × (length text ≤ most)

  tells-within : (given : Result Within Error) (r : Result Outcome AllocError) → IfOk given (TextWithin Is most) → IfErr given Refused → IfOk r (IsOutcomeWithin most given)
      → IfOk r (TellsWithin Is Refused most)
  tells-within (Ok (within.Text text)) (Ok o) ok err is = within_bound (of-done Short Refused NeverBad text.items o ok is)
  tells-within (Ok within.Beyond) (Ok o) ok err is = beyond ok.0 ok.1 ok.2 is.status_is is.text_is is.why_is
  tells-within (Err e) (Ok o) ok err is = within_bound (known Short Refused NeverBad 1 (message_of e) (why_of e) o (refused e err is.no_lack) is.is)
  tells-within given (Err lack) ok err is = tt

  given-told : (outcome : Result Outcome AllocError) (o : Outcome) → MatchResult outcome (λ given. given ≡ o) (λ e. ⊥) → IfOk outcome (TellsWithin Is Refused most) → TellsWithin Is Refused most o
  given-told (Ok x) o is tells = subst (TellsWithin Is Refused most) is tells
  given-told (Err e) o is tells = absurd is

  told-within : (outcome : Result Outcome AllocError) (status : ℕ) (text : List ℕ) (why : Why) → IfOk outcome (TellsWithin Is Refused most) → HandsOut outcome status text why
      → AnswersWithin Is Refused most status text why
  told-within outcome status text why tells lacking = within_bound answers_lacking
  told-within outcome status text why tells (handed o is) = given-told outcome o is tells

  -- C is told it
  pub passes-within : (given : Result Within Error) (outcome : Result Outcome AllocError) (status : ℕ) (text : List ℕ) (why : Why) → IfOk given (TextWithin Is most) → IfErr given Refused
      → IfOk outcome (IsOutcomeWithin most given) → HandsOut outcome status text why → AnswersWithin Is Refused most status text why
  passes-within given outcome status text why ok err is hands = told-within outcome status text why (tells-within given outcome ok err is) hands

-- both of two things that are said of a refusal
pub both-said : {X : Type 0} (P Q : Error → Type 0) (given : Result X Error) → IfErr given P → IfErr given Q → IfErr given (λ e. P e × Q e)
both-said x y z p q = search std_rules

-- texts that are the bytes of names which are UTF-8
pub are-texts : (xs ys prev next : List ℕ) → (xs ≡ prev) × (is_utf8 prev ≡ true) → (ys ≡ next) × (is_utf8 next ≡ true) → AreTexts xs ys
are-texts xs ys prev next one other = search std_rules

pub second-bad : (a b : Bool) → a ≡ true → b ≡ false → (a && b) ≡ false
second-bad a b good is = subst (λ (x : Bool). (x && b) ≡ false) (sym good) is

-- what an outcome tells of two names
abbrev pub TellsWorlds : List ℕ → List ℕ → List ℕ → Outcome → Type 0
TellsWorlds bytes prev next = Tells (IsCompatible bytes prev next) (RefusesWorlds bytes prev next) (LacksWorld bytes prev next)

-- names as texts are the names
pub named : (bytes prev next prev' next' : List ℕ) → prev' ≡ prev → next' ≡ next → (r : Result Outcome AllocError) → IfOk r (TellsWorlds bytes prev' next') → IfOk r (TellsWorlds bytes prev next)
named bytes prev next prev' next' p n r is = search std_rules

-- what an outcome tells of two worlds
abbrev pub TellsAlike : List ℕ → List ℕ → List ℕ → List ℕ → Outcome → Type 0
TellsAlike bytes name other other_name = Tells (AreAlike bytes name other other_name) (RefusesAlike bytes name other other_name) (LacksEither bytes name other other_name)

-- names as texts are the names
pub named-alike : (bytes name other other_name name' other_name' : List ℕ) → name' ≡ name → other_name' ≡ other_name → (r : Result Outcome AllocError)
    → IfOk r (TellsAlike bytes name' other other_name') → IfOk r (TellsAlike bytes name other other_name)
named-alike bytes name other other_name name' other_name' p n r is = search std_rules
