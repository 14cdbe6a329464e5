-- What a text that is written has to do with the exit status.
use Rattle.std.specs.{Prelude.ℕ, Prelude.List, Prelude.Option, Io.KnownBytes.Appends}

-- The status is 1, and a write failed; or it is the one that was handed in, and the writer holds the text behind what it held before.
pub data Answers (old new : Option (List ℕ)) (text : List ℕ) (status : ℕ) : ℕ → Type 0 where
  failed : Answers old new text status 1
  written : Appends old new text → Answers old new text status status
