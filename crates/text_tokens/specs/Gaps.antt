-- A text as tokens, with the gap in front of each: blanks and comments.
use Rattle.std.specs.Prelude.{◌≡◌, ◌++◌, ℕ, List, [], ◌∷◌}
use Rattle.print_grammar.specs.Token.{Front.Ended, Front.Skipped, Front.Found, Token}
use Rattle.text_tokens.specs.Comments.{front_in_text}

-- a token, and the blanks and comments in front of it
pub record Spaced : Type 0 where
  pub gap : List ℕ
  pub token : Token

-- The text is blanks, comments and these tokens, in order, and this gap stands in front of it.
pub data Follows : List ℕ → List ℕ → List Spaced → Type 0 where
  ended : {gap text : List ℕ} → front_in_text text ≡ Ended → Follows gap text []
  skips : {gap rest : List ℕ} {found : List Spaced} (front : List ℕ) → front_in_text (front ++ rest) ≡ Skipped rest → Follows (gap ++ front) rest found
      → Follows gap (front ++ rest) found
  comes : {gap text rest : List ℕ} {token : Token} {found : List Spaced} → front_in_text text ≡ Found token rest → Follows [] rest found
      → Follows gap text (record { gap = gap; token = token } ∷ found)

-- These are the tokens of a text, each with the gap in front of it.
abbrev pub TextTokens : List ℕ → List Spaced → Type 0
TextTokens text found = Follows [] text found
