-- Where a reader stops, and what it has seen by then.
use Rattle.std.specs.Prelude.{List, [], ◌∷◌}
use Rattle.print_grammar.specs.{Token.Token, Token.Mark.At, Token.Token.Punctuation}
use Rattle.text_trees.specs.Reading.{Reading, Reading.Found, Reading.Refused}

-- the first of these tokens, if there is one
abbrev pub first_alone : List Token → List Token
first_alone [] = []
first_alone (t ∷ ts) = t ∷ []

-- what a reader sees of tokens before it decides: the first, or `@` and the token behind it
abbrev pub window : List Token → List Token
window (Punctuation At ∷ ts) = Punctuation At ∷ first_alone ts
window ts = first_alone ts

-- the tokens that a reading leaves, or those where it is refused
abbrev pub rest_of : {X : Type 0} → Reading X → List Token
rest_of (Found x rest) = rest
rest_of (Refused wanted rest) = rest

-- the same reading with other tokens left
abbrev pub put : {X : Type 0} → Reading X → List Token → Reading X
put (Found x rest) other = Found x other
put (Refused wanted rest) other = Refused wanted other
