-- The tokens of a text with their places.
use Rattle.std.specs.Prelude.{◌≡◌, ◌≤◌, ◌<◌, ◌^◌, ℕ, List, [], ◌∷◌, drop, take, length, map, slice_range, Some}
use Rattle.print_grammar.specs.Token as grammar
use Rattle.print_grammar.specs.Token.{Front as front}
use Rattle.text_tokens.specs.{Comments.front_in_text, Gaps.TextTokens, Gaps.Spaced}
use Rattle.text_tokens.specs.declared.token.Token.{Token}
use Rattle.text_tokens.specs.declared.error.TokenError.{TokenError}
use Rattle.text_tokens.specs.declared.error.TokenError.TheVariants.{Memory, Size, NoToken}
use Rattle.text_tokens.specs.Kinds.{kind_here}

-- the text of a place
abbrev pub text_at : List ℕ → Token → List ℕ
text_at text place = slice_range text place.start place.end

-- This token of the grammar stands at this place: from where the place begins it is the longest, and the place ends behind it. So the text of the
-- place is the token's.
pub record StandsAt (text : List ℕ) (place : Token) (token : grammar.Token) : Type 0 where
  pub found : front_in_text (drop place.start text) ≡ front.Found token (drop place.end text)
  pub spelled : grammar.spelled (text_at text place) ≡ Some token
  pub kind : place.kind ≡ kind_here token
  pub longer : place.start < place.end
  pub within : place.end ≤ length text

-- The text from one byte to another is blanks, comments and these tokens in order, at these places.
pub data Placed (text : List ℕ) : ℕ → ℕ → List Token → List grammar.Token → Type 0 where
  none_placed : {at : ℕ} → Placed text at at [] []
  skip_placed : {at next to : ℕ} {places : List Token} {tokens : List grammar.Token} → front_in_text (drop at text) ≡ front.Skipped (drop next text)
      → at < next → next ≤ length text → Placed text next to places tokens → Placed text at to places tokens
  one_placed : {to : ℕ} {places : List Token} {tokens : List grammar.Token} (place : Token) (token : grammar.Token) → StandsAt text place token
      → Placed text place.end to places tokens → Placed text place.start to (place ∷ places) (token ∷ tokens)

-- the gaps in front of places, of which the first begins at a byte
abbrev pub gaps_from : List ℕ → ℕ → List Token → List (List ℕ)
gaps_from text at [] = []
gaps_from text at (place ∷ places) = slice_range text at place.start ∷ gaps_from text place.end places

-- The text has tokens, and these are their places.
pub record HasTokensAt (text : List ℕ) (places : List Token) : Type 0 where
  pub found : List Spaced
  pub spelled : TextTokens text found
  pub gaps : map (λ s. s.gap) found ≡ gaps_from text 0 places
  pub placed : Placed text 0 (length text) places (map (λ s. s.token) found)

-- At this byte, before the end, no token begins, and neither a blank nor a comment. The text up to there has tokens, and these are their places,
-- in the whole text too. So the whole text has none.
pub record HasNoTokenAt (text : List ℕ) (at : ℕ) : Type 0 where
  pub places : List Token
  pub found : List Spaced
  pub before : TextTokens (take at text) found
  pub placed : Placed text 0 at places (map (λ s. s.token) found)
  pub within : at < length text
  pub unknown : front_in_text (drop at text) ≡ front.Unknown
  pub none : (others : List Spaced) → TextTokens text others → ⊥

-- what a refusal says of a text
abbrev pub IsRefusal : List ℕ → TokenError → Type 0
IsRefusal text Memory = Unit {0}
IsRefusal text Size = 2 ^ 32 ≤ length text
IsRefusal text (NoToken at) = HasNoTokenAt text at
