-- Reading the front of a list of tokens: what is there and what follows it, or what is wanted and where.
-- Readers are functions. Where the grammar has a choice, the next token or the next two decide, so nothing is read twice.
use Rattle.std.specs.Prelude.{◌==◌, Bool, true, false, List, [], ◌∷◌, ℕ, length, zero, suc, if◌then◌else◌}
use Rattle.wit_model.specs.Text.{Text, text_eq}
use Rattle.print_grammar.specs.{Keyword.Keyword, Keyword.PrimitiveName, Token.Token, Token.Mark}
use Rattle.print_grammar.specs.Token.Mark.{OpenBrace, CloseBrace, OpenParen, CloseParen, Less, Greater, Colon, Semi, Comma, Dot, Equals, Slash, At, Arrow}
use Rattle.print_grammar.specs.Token.Token.{Word, Escaped, Key, VersionText, Digits, Quoted, Punctuation}
use Rattle.print_grammar.specs.Keyword.PrimitiveName.{Bool_, U8, U16, U32, U64, S8, S16, S32, S64, F32, F64, Char, String, ErrorContext}

-- What is wanted where reading stops.
pub data Wanted : Type 0 where
  AMark : Mark → Wanted
  AKeyword : Keyword → Wanted
  -- a word that is no keyword, as `version`
  AWord : Text → Wanted
  AnId AVersion ANumber AString AType : Wanted
  -- what an interface, a world or a resource has
  AMember : Wanted
  -- an interface or a world, or a `use` or a package where no attribute stands in front
  AnItem : Wanted
  -- a gate or an external id that may stand there, behind `@`
  AnAttribute : Wanted
  -- a version since which, or a feature under which, something is deprecated
  AGate : Wanted
  -- a type of fewer levels
  Shallower : Wanted

-- What reading the front of tokens gives: what is there and what follows it, or what is wanted and the tokens from there on.
pub data Reading (X : Type 0) : Type 0 where
  Found : X → List Token → Reading X
  Refused : Wanted → List Token → Reading X

-- what is read behind it
unfoldable pub then_read : {X Y : Type 0} → Reading X → (X → List Token → Reading Y) → Reading Y
then_read (Found x rest) next = next x rest
then_read (Refused wanted rest) next = Refused wanted rest

-- something, made into something else
unfoldable pub made : {X Y : Type 0} → (X → Y) → Reading X → Reading Y
made f (Found x rest) = Found (f x) rest
made f (Refused wanted rest) = Refused wanted rest

-- what follows the first token
abbrev pub behind : List Token → List Token
behind [] = []
behind (t ∷ ts) = ts

-- ---- marks

-- the number of a mark
abbrev pub mark_number : Mark → ℕ
mark_number OpenBrace = 0
mark_number CloseBrace = 1
mark_number OpenParen = 2
mark_number CloseParen = 3
mark_number Less = 4
mark_number Greater = 5
mark_number Colon = 6
mark_number Semi = 7
mark_number Comma = 8
mark_number Dot = 9
mark_number Equals = 10
mark_number Slash = 11
mark_number At = 12
mark_number Arrow = 13

-- whether a token is this mark
abbrev pub is_mark : Mark → Token → Bool
is_mark mark (Punctuation other) = mark_number other == mark_number mark
is_mark mark token = false

-- whether tokens begin with this mark
abbrev pub begins : Mark → List Token → Bool
begins mark [] = false
begins mark (t ∷ ts) = is_mark mark t

-- a mark, and what is read behind it
unfoldable pub behind_mark : {X : Type 0} → Mark → (List Token → Reading X) → List Token → Reading X
behind_mark mark next ts = if begins mark ts then next (behind ts) else Refused (Wanted.AMark mark) ts

-- what is read behind a mark, where it stands in front, or else something else
unfoldable pub if_mark : {X : Type 0} → Mark → (List Token → Reading X) → (List Token → Reading X) → List Token → Reading X
if_mark mark next other ts = if begins mark ts then next (behind ts) else other ts

-- ---- keywords

-- the number of a primitive type
abbrev pub primitive_number : PrimitiveName → ℕ
primitive_number Bool_ = 0
primitive_number U8 = 1
primitive_number U16 = 2
primitive_number U32 = 3
primitive_number U64 = 4
primitive_number S8 = 5
primitive_number S16 = 6
primitive_number S32 = 7
primitive_number S64 = 8
primitive_number F32 = 9
primitive_number F64 = 10
primitive_number Char = 11
primitive_number String = 12
primitive_number ErrorContext = 13

-- the number of a keyword
abbrev pub keyword_number : Keyword → ℕ
keyword_number (Keyword.PrimitiveWord p) = primitive_number p
keyword_number Keyword.Use = 14
keyword_number Keyword.Type_ = 15
keyword_number Keyword.Func = 16
keyword_number Keyword.Float32 = 17
keyword_number Keyword.Float64 = 18
keyword_number Keyword.Resource = 19
keyword_number Keyword.Record = 20
keyword_number Keyword.Flags = 21
keyword_number Keyword.Variant = 22
keyword_number Keyword.Enum = 23
keyword_number Keyword.Option_ = 24
keyword_number Keyword.Result = 25
keyword_number Keyword.Future = 26
keyword_number Keyword.Stream = 27
keyword_number Keyword.List_ = 28
keyword_number Keyword.Own = 29
keyword_number Keyword.Borrow = 30
keyword_number Keyword.Underscore = 31
keyword_number Keyword.As = 32
keyword_number Keyword.From = 33
keyword_number Keyword.Static = 34
keyword_number Keyword.Interface = 35
keyword_number Keyword.Tuple = 36
keyword_number Keyword.World = 37
keyword_number Keyword.Import = 38
keyword_number Keyword.Export = 39
keyword_number Keyword.Package = 40
keyword_number Keyword.With = 41
keyword_number Keyword.Include = 42
keyword_number Keyword.Constructor = 43
keyword_number Keyword.Async = 44
keyword_number Keyword.Map = 45

-- whether a token is this keyword
abbrev pub is_key : Keyword → Token → Bool
is_key keyword (Key other) = keyword_number other == keyword_number keyword
is_key keyword token = false

-- whether tokens begin with this keyword
abbrev pub begins_key : Keyword → List Token → Bool
begins_key keyword [] = false
begins_key keyword (t ∷ ts) = is_key keyword t

-- a keyword, and what is read behind it
unfoldable pub behind_key : {X : Type 0} → Keyword → (List Token → Reading X) → List Token → Reading X
behind_key keyword next ts = if begins_key keyword ts then next (behind ts) else Refused (Wanted.AKeyword keyword) ts

-- what is read behind a keyword, where it stands in front, or else something else
unfoldable pub if_key : {X : Type 0} → Keyword → (List Token → Reading X) → (List Token → Reading X) → List Token → Reading X
if_key keyword next other ts = if begins_key keyword ts then next (behind ts) else other ts

-- ---- names, versions, numbers, strings

-- an id
unfoldable pub id_in_front : List Token → Reading Text
id_in_front (Word label ∷ ts) = Found label ts
id_in_front (Escaped label ∷ ts) = Found label ts
id_in_front ts = Refused Wanted.AnId ts

-- what is read behind an id, where one stands in front, or else something else
unfoldable pub if_id : {X : Type 0} → (Text → List Token → Reading X) → (List Token → Reading X) → List Token → Reading X
if_id next other (Word label ∷ ts) = next label ts
if_id next other (Escaped label ∷ ts) = next label ts
if_id next other ts = other ts

-- a version
unfoldable pub version_in_front : List Token → Reading Text
version_in_front (VersionText text ∷ ts) = Found text ts
version_in_front ts = Refused Wanted.AVersion ts

-- a number
unfoldable pub digits_in_front : List Token → Reading ℕ
digits_in_front (Digits n ∷ ts) = Found n ts
digits_in_front ts = Refused Wanted.ANumber ts

-- a string, by its characters
unfoldable pub quoted_in_front : List Token → Reading (List ℕ)
quoted_in_front (Quoted characters ∷ ts) = Found characters ts
quoted_in_front ts = Refused Wanted.AString ts

-- whether tokens begin with this word
abbrev pub begins_word : Text → List Token → Bool
begins_word text (Word word ∷ ts) = text_eq word text
begins_word text ts = false

-- what is read behind a word that is no keyword, where it stands in front, or else something else
unfoldable pub if_word : {X : Type 0} → Text → (List Token → Reading X) → (List Token → Reading X) → List Token → Reading X
if_word text next other ts = if begins_word text ts then next (behind ts) else other ts

-- a word that is no keyword, and what is read behind it
abbrev pub behind_word : {X : Type 0} → Text → (List Token → Reading X) → List Token → Reading X
behind_word text next = if_word text next (Refused (Wanted.AWord text))

-- whether tokens begin with `@` and this word
abbrev pub begins_attribute : Text → List Token → Bool
begins_attribute text (Punctuation At ∷ ts) = begins_word text ts
begins_attribute text ts = false

-- what is read behind `@` and a word, where they stand in front, or else something else
unfoldable pub if_attribute : {X : Type 0} → Text → (List Token → Reading X) → (List Token → Reading X) → List Token → Reading X
if_attribute text next other ts = if begins_attribute text ts then next (behind (behind ts)) else other ts

-- ---- lists

-- something, and more things in front of which it stands
abbrev pub with_first : {X : Type 0} → X → Reading (List X) → Reading (List X)
with_first x more = made (λ xs. x ∷ xs) more

-- Things one after the other, up to tokens that end them. The number counts down; it is more than there are tokens.
unfoldable pub things_in_front : {X : Type 0} → (List Token → Bool) → (List Token → Reading X) → ℕ → List Token → Reading (List X)
things_in_front ends read zero ts = Refused Wanted.AMember ts
things_in_front ends read (suc n) ts = if ends ts then Found [] ts else then_read (read ts) (λ x rest. with_first x (things_in_front ends read n rest))

-- things one after the other, up to tokens that end them
unfoldable pub until : {X : Type 0} → (List Token → Bool) → (List Token → Reading X) → List Token → Reading (List X)
until ends read ts = things_in_front ends read (suc (length ts)) ts

-- things one after the other, up to a closing mark
unfoldable pub repeated : {X : Type 0} → (List Token → Reading X) → Mark → List Token → Reading (List X)
repeated read close ts = then_read (until (begins close) read ts) (λ xs rest. Found xs (behind rest))

-- whether more follows in a list with commas between, and what follows the comma or the mark that closes it
abbrev pub more_in_front : Mark → List Token → Reading Bool
more_in_front close = if_mark close (Found false) (behind_mark Comma (if_mark close (Found false) (Found true)))

-- a thing, and more or not
abbrev pub thing_and_more : {X : Type 0} → X → Reading (List X) → Bool → List Token → Reading (List X)
thing_and_more x others more rest = if more then with_first x others else Found (x ∷ []) rest

-- Things with commas between, at least one, and a comma more allowed, up to a closing mark. The number counts down; it is more than there are tokens.
unfoldable pub listed_in_front : {X : Type 0} → (List Token → Reading X) → Mark → ℕ → List Token → Reading (List X)
listed_in_front read close zero ts = Refused Wanted.AMember ts
listed_in_front read close (suc n) ts =
    then_read (read ts) (λ x rest. then_read (more_in_front close rest) (λ more rest. thing_and_more x (listed_in_front read close n rest) more rest))

-- things with commas between, at least one, and a comma more allowed, up to a closing mark
unfoldable pub listed : {X : Type 0} → (List Token → Reading X) → Mark → List Token → Reading (List X)
listed read close ts = listed_in_front read close (suc (length ts)) ts
