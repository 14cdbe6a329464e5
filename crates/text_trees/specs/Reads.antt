-- What reading a text says of it.
use Rattle.std.specs.Prelude.{◌≡◌, ◌≤◌, ◌^◌, true, ℕ, List, [], ◌∷◌, drop, length, map}
use Rattle.print_grammar.specs.Token.{Token}
use Rattle.text_tokens.specs.{Gaps.Spaced, Gaps.TextTokens, Places.gaps_from, Places.HasNoTokenAt, Places.HasTokensAt, Places.Placed}
use Rattle.text_tokens.specs.declared.token.Token.{Token as PlacedToken}
use Rattle.text_trees.specs.{Levels.fits_text, TextTree.TextTree}
use Rattle.text_trees.specs.{Reading.Reading.Refused, ReadFiles.text_in_front}
use Rattle.text_trees.specs.{Grammar.ReadsText, Seen.docs_by, Seen.wanted_there}
use Rattle.text_trees.specs.declared.refusal.Wanted.{Wanted as CodeWanted}
use Rattle.text_trees.specs.declared.refusal.TreeError.{TreeError}
use Rattle.text_trees.specs.declared.refusal.TreeError.TheVariants.{Memory, Size, NoToken, Wanted}

-- The text is read as this tree, with its documentation.
pub record IsReadAs (text : List ℕ) (tree : TextTree) : Type 0 where
  pub found : List Spaced
  pub spelled : TextTokens text found
  pub parsed : ReadsText (docs_by (map (λ s. s.gap) found)) (map (λ s. s.token) found) tree

-- the byte where the first of these tokens of a text begins, or where the text ends if there is none
abbrev pub first_byte : List ℕ → List PlacedToken → ℕ
first_byte text [] = length text
first_byte text (place ∷ places) = place.start

-- Reading these tokens as a file stops at the token that begins at this byte, or at the end of the text, since this is wanted there. No type of the file may
-- have more than 100 levels where it is used, and no alias more than 101. The reader is a function of tokens, and laws say what its refusals mean
-- (`files_are_read`, `refusals_stand`). So no file begins with the tokens before the place and then with the one there, or with `@` and the one behind it.
-- Where a type of fewer levels is wanted, a file may.
pub record StopsAt (text : List ℕ) (places : List PlacedToken) (tokens : List Token) (w : CodeWanted) (at : ℕ) : Type 0 where
  -- how many tokens stand before the place
  pub before : ℕ
  pub refused : text_in_front (docs_by (gaps_from text 0 places)) 100 tokens ≡ Refused (wanted_there w) (drop before tokens)
  pub byte : at ≡ first_byte text (drop before places)

-- Reading the text stops at this byte, since this is wanted there. The text is no file in which no type has more than 100 levels where it is used, and no
-- alias more than 101.
pub record StopsReading (text : List ℕ) (w : CodeWanted) (at : ℕ) : Type 0 where
  pub places : List PlacedToken
  pub has : HasTokensAt text places
  pub stops : StopsAt text places (map (λ s. s.token) has.found) w at
  pub none : (tree : TextTree) → IsReadAs text tree → fits_text 100 tree ≡ true → ⊥

-- what a refusal of a text with tokens at these places says: what is wanted, and where
abbrev pub RefusesPlaces : List ℕ → List PlacedToken → TreeError → Type 0
RefusesPlaces text places Memory = Unit {0}
RefusesPlaces text places Size = ⊥
RefusesPlaces text places (NoToken at) = ⊥
RefusesPlaces text places (Wanted w at) = (tokens : List Token) → Placed text 0 (length text) places tokens → StopsAt text places tokens w at

-- what a refusal of a text says: want of memory nothing, and else why it has no tree, and where
abbrev pub RefusesText : List ℕ → TreeError → Type 0
RefusesText text Memory = Unit {0}
RefusesText text Size = 2 ^ 32 ≤ length text
RefusesText text (NoToken at) = HasNoTokenAt text at
RefusesText text (Wanted w at) = StopsReading text w at
