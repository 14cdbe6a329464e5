-- What a function of the code answers, beside what the definition of the same name finds.
use Rattle.std.specs.Prelude.{◌≡◌, List, ℕ, Option, Some, None, Result, Ok, Err}
use Rattle.std.specs.Borrow.{Bor}
use Rattle.wit_model.specs.declared.error.Error.{Error}
use Rattle.wit_model.specs.declared.error.Error.TheVariants as errors
use Rattle.read_follow.specs.declared.refusal.Refusal.{Refusal}
use Rattle.read_follow.specs.declared.refusal.Refusal.TheVariants as refusals

-- a refusal says that nothing is found, unless memory ran out
abbrev pub Refuses : {A : Type 0} → Refusal → Option A → Type 0
Refuses refusals.Memory found = Unit {0}
Refuses (refusals.Absent cause left) found = found ≡ None

-- what was computed, seen by view, is what is found
abbrev pub Gives : {X A : Type 0} → (X → A) → Result X Refusal → Option A → Type 0
Gives view (Ok x) found = found ≡ Some (view x)
Gives view (Err e) found = Refuses e found

-- what was read from the front, seen by view, and the bytes behind it
abbrev pub Finds : {X A : Type 0} → (X → A) → Result (X × Bor (List ℕ)) Refusal → Option (A × List ℕ) → Type 0
Finds view (Ok x) found = found ≡ Some (view x.0, x.1.now)
Finds view (Err e) found = Refuses e found

-- it is refused because of the bytes
abbrev pub IsNoReading : Error → Type 0
IsNoReading (errors.NoReading cause offset) = Unit {0}
IsNoReading _ = ⊥

-- the refusal that an error of a public reader stands for, with so many bytes left
abbrev pub refusal_from : Error → ℕ → Refusal
refusal_from (errors.NoReading cause offset) left = refusals.Absent cause left
refusal_from _ left = refusals.Memory
