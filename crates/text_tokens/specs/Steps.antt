-- What stands at a place of a text, as the code has it.
use Rattle.std.specs.Prelude.{◌≡◌, ◌≤◌, ◌<◌, ℕ, List, length, drop}
use Rattle.print_grammar.specs.Token as grammar
use Rattle.print_grammar.specs.Token.{Front as front}
use Rattle.text_tokens.specs.declared.lexer.Front.{Front}
use Rattle.text_tokens.specs.declared.lexer.Front.TheVariants.{Ended, Skipped, Found, Unknown}
use Rattle.text_tokens.specs.declared.token.Token.{Token}
use Rattle.text_tokens.specs.{Comments.front_in_text, Places.StandsAt}

-- a blank or a comment up to before this byte
pub record SkipsTo (text : List ℕ) (at next : ℕ) : Type 0 where
  pub skipped : front_in_text (drop at text) ≡ front.Skipped (drop next text)
  pub further : at < next
  pub within : next ≤ length text

-- a token
pub record BeginsHere (text : List ℕ) (at : ℕ) (place : Token) : Type 0 where
  pub token : grammar.Token
  pub stands : StandsAt text place token
  pub here : place.start ≡ at

-- nothing that may stand there
pub record IsUnknown (text : List ℕ) (at : ℕ) : Type 0 where
  pub unknown : front_in_text (drop at text) ≡ front.Unknown
  pub within : at < length text

-- what stands at a place of a text
abbrev pub IsFront : List ℕ → ℕ → Front → Type 0
IsFront text at Ended = at ≡ length text
IsFront text at (Skipped next) = SkipsTo text at next
IsFront text at (Found place) = BeginsHere text at place
IsFront text at Unknown = IsUnknown text at
