-- What a function that reads answers, beside what stands in the bytes.
use Rattle.std.specs.Prelude.{◌≡◌, ℕ, ◌≤◌, List, length, slice_range, Option, Some, None, Result, Ok, Err}
use Rattle.std.specs.Borrow.{Bor}
use Rattle.wit_model.specs.declared.error.Error.{Error}
use Rattle.wit_model.specs.declared.error.Error.TheVariants as errors
use Rattle.comp_bytes.specs.Form.{Spellings}

-- What a reader of the front answers, seen by view: what was found and the bytes behind it, or why nothing was found.
abbrev pub Gives : {X A E : Type 0} → (X → A) → Result (X × Bor (List ℕ)) E → Option (A × List ℕ) → Type 0
Gives view (Ok x) found = found ≡ Some (view x.0, x.1.now)
Gives view (Err e) found = found ≡ None

-- It refuses because of the bytes, at an offset within them, and takes no memory.
abbrev pub Refuses : Error → List ℕ → Type 0 → Type 0
Refuses (errors.NoReading cause offset) bytes why = (offset ≤ length bytes) × why
Refuses _ bytes why = ⊥

-- From the offset at it reads the form that stands there, seen by view, and where the form ends, and refuses where none stands.
abbrev pub IsReadAtAs : {X A : Type 0} → (X → A) → (A → Spellings) → List ℕ → ℕ → Result (X × ℕ) Error → Type 0
IsReadAtAs view form bytes at (Ok x) = (at ≤ x.1) × (x.1 ≤ length bytes) × form (view x.0) (slice_range bytes at x.1)
IsReadAtAs {A} view form bytes at (Err e) = Refuses e bytes ((y : A) (end : ℕ) → form y (slice_range bytes at end) → ⊥)

-- From the offset at it reads the form that stands there, and where the form ends, and refuses where none stands.
abbrev pub IsReadAt : {A : Type 0} → (A → Spellings) → List ℕ → ℕ → Result (A × ℕ) Error → Type 0
IsReadAt form bytes at r = IsReadAtAs (λ x. x) form bytes at r
