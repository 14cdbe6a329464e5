-- What comes of a call, and what C is given of it.
use Rattle.std.specs.Prelude.{◌≡◌, ℕ, List, [], Result, Ok, Err, MatchResult, Vec}
use Rattle.std.specs.declared.alloc.{AllocError.AllocError, Global.Global}
use Rattle.wit_model.specs.declared.error.{Error.Error, Error.TheVariants.Memory}
use Rattle.witc_refusals.specs.{Messages.message_of, Numbers.plain_why, Numbers.why_of}
use Rattle.witc_refusals.specs.declared.why.Why.{Why}
use Rattle.witc_ffi.specs.declared.outcome.Outcome.{Outcome}

-- the refusal isn't that memory ran out
abbrev pub IsNoLack : Error → Type 0
IsNoLack Memory = ⊥
IsNoLack _ = Unit {0}

-- the outcome of this status with this text and these numbers
pub record IsOutcome (status : ℕ) (text : List ℕ) (why : Why) (o : Outcome) : Type 0 where
  pub status_is : o.status ≡ status
  pub text_is : o.text.items ≡ text
  pub why_is : o.why ≡ why

-- the outcome of a refusal, unless memory ran out: its message and its numbers
pub record IsRefusal (e : Error) (o : Outcome) : Type 0 where
  pub no_lack : IsNoLack e
  pub is : IsOutcome 1 (message_of e) (why_of e) o

-- the outcome of bytes, or of a refusal
abbrev pub IsOutcomeOf : Result (Vec ℕ Global) Error → Outcome → Type 0
IsOutcomeOf (Ok text) o = IsOutcome 0 text.items (plain_why 0) o
IsOutcomeOf (Err e) o = IsRefusal e o

-- Memory ran out, and there are no bytes; or there is an outcome, and C has its status, its bytes and its numbers.
pub data HandsOut (outcome : Result Outcome AllocError) : ℕ → List ℕ → Why → Type 0 where
  lacking : HandsOut outcome 3 [] (plain_why 1)
  handed : (o : Outcome) → MatchResult outcome (λ given. given ≡ o) (λ e. ⊥) → HandsOut outcome o.status o.text.items o.why
