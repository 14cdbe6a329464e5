-- The sections of a component or of a core module, one after the other, without a look into their contents (Component Model Binary.md,
-- "Component Definitions", which takes them from the core specification, "Binary Format", "Sections").
use Rattle.std.specs.Prelude.{◌≡◌, ℕ, ◌+◌, ◌≤◌, ◌<◌, List, ◌++◌, length, slice_range, Option, Some, None, Result, Ok, Err, IfSome}
use Rattle.std.specs.Borrow.{Bor}
use Rattle.wit_model.specs.declared.error.{Error.Error, Cause.Cause}
use Rattle.comp_bytes.specs.Form.{Spellings, Tagged, Joined, Counted, Are, Name}
use Rattle.comp_bytes.specs.Answer.{Refuses}
use Rattle.wit_model.specs.Text.{Text}
use Rattle.comp_bytes.specs.declared.frames.Section.{Section}
use Rattle.wit_model.specs.declared.error.Error.TheVariants as errors

-- a section's frame: its id, and its contents behind their length
abbrev pub IsFrame : ℕ × List ℕ → Spellings
IsFrame f = Tagged f.0 (Counted f.1)

-- an input that is read section by section: where the next one begins, and the refusal, if one came
pub record Unread : Type 0 where
  pub bytes : List ℕ
  pub at : ℕ
  pub refused : Option (Cause × ℕ)

-- the next section begins within the input, and so does what was refused
pub record IsWithin (bytes : List ℕ) (at : ℕ) (refused : Option (Cause × ℕ)) : Type 0 where
  pub next : at ≤ length bytes
  pub offset : IfSome refused (λ r. r.1 ≤ length bytes)

-- From at to end stands the frame of a section. Its contents are the part of the input from its start to the end.
pub record IsSectionAt (bytes : List ℕ) (at end : ℕ) (s : Section) : Type 0 where
  pub within : end ≤ length bytes
  pub spelled : IsFrame (s.id, s.contents.now) (slice_range bytes at end)
  pub ends : s.start + length s.contents.now ≡ end
  pub part : slice_range bytes s.start end ≡ s.contents.now

-- What stands at an offset: nothing at the end of the input, a section and its end, or no section, however long.
abbrev pub StandsAt : List ℕ → ℕ → Result (Option (Section × ℕ)) Cause → Type 0
StandsAt bytes at (Ok None) = at ≡ length bytes
StandsAt bytes at (Ok (Some s)) = IsSectionAt bytes at s.1 s.0
StandsAt bytes at (Err cause) = (at < length bytes) × ((f : ℕ × List ℕ) (end : ℕ) → IsFrame f (slice_range bytes at end) → ⊥)

-- No frame stands at the next place, however long, which lies within the input. The refusal is kept.
pub record IsRefusedAt (old new : Unread) (cause : Cause) (offset : ℕ) : Type 0 where
  pub inside : old.at < length old.bytes
  pub none : (f : ℕ × List ℕ) (end : ℕ) → IsFrame f (slice_range old.bytes old.at end) → ⊥
  pub within : offset ≤ length old.bytes
  pub kept : new ≡ record { bytes = old.bytes; at = old.at; refused = Some (cause, offset) }

-- a refusal: no frame begins here, with the cause and the offset that the error names
abbrev pub IsRefused : Unread → Unread → Error → Type 0
IsRefused old new (errors.NoReading cause offset) = IsRefusedAt old new cause offset
IsRefused old new _ = ⊥

-- What is answered where nothing was refused before: none at the end of the input, the section that stands next, or a refusal.
abbrev pub IsNext : Unread → Unread → Result (Option Section) Error → Type 0
IsNext old new (Ok None) = (old.at ≡ length old.bytes) × (new ≡ old)
IsNext old new (Ok (Some s)) = IsSectionAt old.bytes old.at new.at s × (new ≡ record { bytes = old.bytes; at = new.at; refused = None })
IsNext old new (Err e) = IsRefused old new e

-- the section in front of bytes, and the bytes behind it; or no section stands in front, however long
abbrev pub StandsInFront : List ℕ → Result (Section × Bor (List ℕ)) Error → Type 0
StandsInFront bytes (Ok x) = (front : List ℕ) × (bytes ≡ front ++ x.1.now) × IsFrame (x.0.id, x.0.contents.now) front
StandsInFront bytes (Err e) = (f : ℕ × List ℕ) (front rest : List ℕ) → bytes ≡ front ++ rest → IsFrame f front → ⊥

-- it refuses because of the bytes, at their front
abbrev pub RefusesFront : Error → Type 0
RefusesFront (errors.NoReading cause offset) = offset ≡ 0
RefusesFront _ = ⊥

-- the contents of a custom section: its name, and any bytes
abbrev pub IsCustom : List ℕ × List ℕ → Spellings
IsCustom c = Joined (Name c.0) (Are c.1)

-- the name and the bytes behind it, or a refusal, where the contents have no name at the front
abbrev pub ReadsCustom : List ℕ → Result (Bor Text × Bor (List ℕ)) Error → Type 0
ReadsCustom contents (Ok x) = IsCustom (x.0.now, x.1.now) contents
ReadsCustom contents (Err e) = Refuses e contents ((c : List ℕ × List ℕ) → IsCustom c contents → ⊥)
