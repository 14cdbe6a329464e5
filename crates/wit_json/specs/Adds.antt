-- What a call adds to the tokens of a writer.
use Rattle.std.specs.Prelude.{◌≡◌, List, ◌++◌}
use Rattle.json.specs.{Token.Token, Written.Written}

-- These tokens follow those that were there, and what stood before all tokens stays.
pub record Adds (old new : Written) (added : List Token) : Type 0 where
  pub tokens : new.tokens ≡ old.tokens ++ added
  pub before : new.before ≡ old.before
