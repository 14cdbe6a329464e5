-- Tokens that pass the test for a mark, a keyword or a word begin with it.
use Rattle.std.proofs.Common.{◌≡◌, refl, ap, ◌==◌, true, List, [], ◌∷◌, Some}
use Rattle.std.specs.Prelude.{slice_get}
use Rattle.std.proofs.lemmas.Bool.{eqb-true}
use Rattle.print_grammar.specs.{Keyword.Keyword, Keyword.PrimitiveName, Token.Token, Token.Mark}
use Rattle.print_grammar.specs.Token.Mark.{OpenBrace, CloseBrace, OpenParen, CloseParen, Less, Greater, Colon, Semi, Comma, Dot, Equals, Slash, At, Arrow}
use Rattle.print_grammar.specs.Token.Token.{Word, Key, Punctuation}
use Rattle.print_grammar.specs.Keyword.PrimitiveName.{Bool_, U8, U16, U32, U64, S8, S16, S32, S64, F32, F64, Char, String, ErrorContext}
use Rattle.wit_model.specs.Text.{Text}
use Rattle.wit_model.proofs.TextLemmas.{text_same}
use Rattle.text_trees.specs.Reading.{behind, begins, is_mark, mark_number, begins_key, is_key, primitive_number, keyword_number, begins_word}

-- ---- each mark and each keyword has a number of its own

abbrev marks : List Mark
marks = OpenBrace ∷ CloseBrace ∷ OpenParen ∷ CloseParen ∷ Less ∷ Greater ∷ Colon ∷ Semi ∷ Comma ∷ Dot ∷ Equals ∷ Slash ∷ At ∷ Arrow ∷ []

mark_of_number : (mark : Mark) → slice_get marks (mark_number mark) ≡ Some mark
mark_of_number OpenBrace = refl
mark_of_number _ = refl

abbrev keywords : List Keyword
keywords =
    Keyword.PrimitiveWord Bool_ ∷ Keyword.PrimitiveWord U8 ∷ Keyword.PrimitiveWord U16 ∷ Keyword.PrimitiveWord U32 ∷ Keyword.PrimitiveWord U64
    ∷ Keyword.PrimitiveWord S8 ∷ Keyword.PrimitiveWord S16 ∷ Keyword.PrimitiveWord S32 ∷ Keyword.PrimitiveWord S64 ∷ Keyword.PrimitiveWord F32
    ∷ Keyword.PrimitiveWord F64 ∷ Keyword.PrimitiveWord Char ∷ Keyword.PrimitiveWord String ∷ Keyword.PrimitiveWord ErrorContext ∷ Keyword.Use
    ∷ Keyword.Type_ ∷ Keyword.Func ∷ Keyword.Float32 ∷ Keyword.Float64 ∷ Keyword.Resource ∷ Keyword.Record ∷ Keyword.Flags ∷ Keyword.Variant
    ∷ Keyword.Enum ∷ Keyword.Option_ ∷ Keyword.Result ∷ Keyword.Future ∷ Keyword.Stream ∷ Keyword.List_ ∷ Keyword.Own ∷ Keyword.Borrow
    ∷ Keyword.Underscore ∷ Keyword.As ∷ Keyword.From ∷ Keyword.Static ∷ Keyword.Interface ∷ Keyword.Tuple ∷ Keyword.World ∷ Keyword.Import
    ∷ Keyword.Export ∷ Keyword.Package ∷ Keyword.With ∷ Keyword.Include ∷ Keyword.Constructor ∷ Keyword.Async ∷ Keyword.Map ∷ []

primitive_of_number : (p : PrimitiveName) → slice_get keywords (primitive_number p) ≡ Some (Keyword.PrimitiveWord p)
primitive_of_number Bool_ = refl
primitive_of_number _ = refl

keyword_of_number : (keyword : Keyword) → slice_get keywords (keyword_number keyword) ≡ Some keyword
keyword_of_number (Keyword.PrimitiveWord p) = primitive_of_number p
keyword_of_number Keyword.Use = refl
keyword_of_number _ = refl

same_mark : (a b : Mark) → (mark_number a == mark_number b) ≡ true → a ≡ b
same_mark a b h = cc (ap (slice_get marks) (eqb-true _ _ h), mark_of_number a, mark_of_number b)

same_keyword : (a b : Keyword) → (keyword_number a == keyword_number b) ≡ true → a ≡ b
same_keyword a b h = cc (ap (slice_get keywords) (eqb-true _ _ h), keyword_of_number a, keyword_of_number b)

-- ---- tests

mark_is : (mark : Mark) (t : Token) → is_mark mark t ≡ true → t ≡ Punctuation mark
mark_is mark (Punctuation other) h = ap Punctuation (same_mark other mark h)
mark_is mark _ h = absurd (cc h)

key_is : (keyword : Keyword) (t : Token) → is_key keyword t ≡ true → t ≡ Key keyword
key_is keyword (Key other) h = ap Key (same_keyword other keyword h)
key_is keyword _ h = absurd (cc h)

pub begins_is : (mark : Mark) (ts : List Token) → begins mark ts ≡ true → ts ≡ Punctuation mark ∷ behind ts
begins_is mark [] h = absurd (cc h)
begins_is mark (t ∷ ts) h = ap (λ x. x ∷ ts) (mark_is mark t h)

pub begins_key_is : (keyword : Keyword) (ts : List Token) → begins_key keyword ts ≡ true → ts ≡ Key keyword ∷ behind ts
begins_key_is keyword [] h = absurd (cc h)
begins_key_is keyword (t ∷ ts) h = ap (λ x. x ∷ ts) (key_is keyword t h)

pub begins_word_is : (text : Text) (ts : List Token) → begins_word text ts ≡ true → ts ≡ Word text ∷ behind ts
begins_word_is text (Word word ∷ ts) h = ap (λ x. Word x ∷ ts) (text_same word text h)
begins_word_is text _ h = absurd (cc h)
