-- Where an answer goes.
use Rattle.std.specs.Prelude.{◌≡◌, ℕ, true, List, Option, Some}
use Rattle.std.specs.Io.KnownBytes.{Appends}
use Rattle.teasel_words.specs.{Given.Given, Table.Text}

-- The answer goes nowhere where only the status is asked for; or a new file of the name that is given holds it; or the writer holds it behind what it held
-- before. Nothing else is written.
pub data IsDelivered {State : Type 0} (puts : State → Text → List ℕ → State → Type 0) (g : Given) (text : List ℕ) (old new : State)
    (before after : Option (List ℕ)) : Type 0 where
  nowhere : g.quiet ≡ true → new ≡ old → after ≡ before → IsDelivered puts g text old new before after
  to_file : (name : Text) → g.output ≡ Some name → puts old name text new → after ≡ before → IsDelivered puts g text old new before after
  to_writer : new ≡ old → Appends before after text → IsDelivered puts g text old new before after
