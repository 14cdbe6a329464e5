-- What tokens of the code are by the grammar: a token is what its kind and its part of the text make it.
use Rattle.std.specs.Prelude.{◌≡◌, ◌-◌, ℕ, List, [], length, map, drop, take, codes, slice_get, zero, suc}
use Rattle.std.specs.Str.Parse.{digits_value}
use Rattle.std.specs.Option.{option_map_or}
use Rattle.wit_model.specs.Text.{Text}
use Rattle.print_grammar.specs.Keyword.{PrimitiveName as names, Keyword as keywords}
use Rattle.print_grammar.specs.Token.{Mark as marks, Token as tokens, StringState.Between, string_characters}
use Rattle.text_tokens.specs.declared.keyword.Primitive.{Primitive}
use Rattle.text_tokens.specs.declared.keyword.Primitive.TheVariants as primitives
use Rattle.text_tokens.specs.declared.keyword.Keyword.{Keyword}
use Rattle.text_tokens.specs.declared.keyword.Keyword.TheVariants as key
use Rattle.text_tokens.specs.declared.token.Mark.{Mark}
use Rattle.text_tokens.specs.declared.token.Mark.TheVariants as mark
use Rattle.text_tokens.specs.declared.token.Kind.{Kind}
use Rattle.text_tokens.specs.declared.token.Kind.TheVariants as kind
use Rattle.text_tokens.specs.declared.token.Token.{Token}
use Rattle.text_trees.specs.declared.tree.Span.{Span}
use Rattle.text_trees.specs.declared.front.Tokens.{Tokens}
use Rattle.text_trees.specs.declared.refusal.Word.{Word}
use Rattle.text_trees.specs.declared.refusal.Word.TheVariants as word
use Rattle.text_trees.specs.declared.refusal.Wanted.{Wanted}
use Rattle.text_trees.specs.declared.refusal.Wanted.TheVariants as wanted
use Rattle.text_trees.specs.declared.refusal.Refusal.{Refusal}
use Rattle.text_trees.specs.declared.refusal.Refusal.TheVariants as refusal
use Rattle.text_tokens.specs.{Documentation.docs_in, Places.gaps_from}
use Rattle.text_trees.specs.Reading.{Reading, Reading.Refused, Wanted as wants}

-- ---- keywords and marks of the grammar

-- a primitive type's name
abbrev pub primitive_there : Primitive → names
primitive_there primitives.Bool = names.Bool_
primitive_there primitives.U8 = names.U8
primitive_there primitives.U16 = names.U16
primitive_there primitives.U32 = names.U32
primitive_there primitives.U64 = names.U64
primitive_there primitives.S8 = names.S8
primitive_there primitives.S16 = names.S16
primitive_there primitives.S32 = names.S32
primitive_there primitives.S64 = names.S64
primitive_there primitives.F32 = names.F32
primitive_there primitives.F64 = names.F64
primitive_there primitives.Char = names.Char
primitive_there primitives.String = names.String
primitive_there primitives.ErrorContext = names.ErrorContext

-- a keyword
abbrev pub keyword_there : Keyword → keywords
keyword_there (key.PrimitiveWord p) = keywords.PrimitiveWord (primitive_there p)
keyword_there key.Use = keywords.Use
keyword_there key.Type_ = keywords.Type_
keyword_there key.Func = keywords.Func
keyword_there key.Float32 = keywords.Float32
keyword_there key.Float64 = keywords.Float64
keyword_there key.Resource = keywords.Resource
keyword_there key.Record = keywords.Record
keyword_there key.Flags = keywords.Flags
keyword_there key.Variant = keywords.Variant
keyword_there key.Enum = keywords.Enum
keyword_there key.Option_ = keywords.Option_
keyword_there key.Result = keywords.Result
keyword_there key.Future = keywords.Future
keyword_there key.Stream = keywords.Stream
keyword_there key.List_ = keywords.List_
keyword_there key.Own = keywords.Own
keyword_there key.Borrow = keywords.Borrow
keyword_there key.Underscore = keywords.Underscore
keyword_there key.As = keywords.As
keyword_there key.From = keywords.From
keyword_there key.Static = keywords.Static
keyword_there key.Interface = keywords.Interface
keyword_there key.Tuple = keywords.Tuple
keyword_there key.World = keywords.World
keyword_there key.Import = keywords.Import
keyword_there key.Export = keywords.Export
keyword_there key.Package = keywords.Package
keyword_there key.With = keywords.With
keyword_there key.Include = keywords.Include
keyword_there key.Constructor = keywords.Constructor
keyword_there key.Async = keywords.Async
keyword_there key.Map = keywords.Map

-- a mark
abbrev pub mark_there : Mark → marks
mark_there mark.OpenBrace = marks.OpenBrace
mark_there mark.CloseBrace = marks.CloseBrace
mark_there mark.OpenParen = marks.OpenParen
mark_there mark.CloseParen = marks.CloseParen
mark_there mark.Less = marks.Less
mark_there mark.Greater = marks.Greater
mark_there mark.Colon = marks.Colon
mark_there mark.Semi = marks.Semi
mark_there mark.Comma = marks.Comma
mark_there mark.Dot = marks.Dot
mark_there mark.Equals = marks.Equals
mark_there mark.Slash = marks.Slash
mark_there mark.At = marks.At
mark_there mark.Arrow = marks.Arrow

-- ---- tokens

-- a part of a text
abbrev pub part : Text → ℕ → ℕ → Text
part text from to = take (to - from) (drop from text)

-- what a span has
abbrev pub cut : Text → Span → Text
cut text span = part text span.start span.end

-- the number with these digits
abbrev pub number_of : Text → ℕ
number_of digits = digits_value 10 digits

-- the characters of a string that is spelled so, with its quotation marks
abbrev pub characters_of : Text → List ℕ
characters_of spelling = option_map_or (λ cs. cs) (string_characters Between (drop 1 spelling)) []

-- the token of a kind that is spelled so
abbrev pub spelled_as : Text → Kind → tokens
spelled_as spelling kind.Word = tokens.Word spelling
spelled_as spelling kind.Escaped = tokens.Escaped (drop 1 spelling)
spelled_as spelling (kind.Key keyword) = tokens.Key (keyword_there keyword)
spelled_as spelling kind.Version = tokens.VersionText spelling
spelled_as spelling kind.Digits = tokens.Digits (number_of spelling)
spelled_as spelling kind.Quoted = tokens.Quoted (characters_of spelling)
spelled_as spelling (kind.Punctuation m) = tokens.Punctuation (mark_there m)

-- the token of a text that stands at a place
abbrev pub said : Text → Token → tokens
said text place = spelled_as (part text place.start place.end) place.kind

-- the text that tokens are of
abbrev pub text_of : Tokens → Text
text_of them = them.text.now

-- how many tokens there are
abbrev pub count_of : Tokens → ℕ
count_of them = length them.places.now

-- the tokens from a place on
unfoldable pub ahead : Tokens → ℕ → List tokens
ahead them at = drop at (map (said (text_of them)) them.places.now)

-- ---- documentation

-- the documentation in front of the tokens that are left, by the gaps in front of all
abbrev pub docs_by : List Text → List tokens → List Text
docs_by gaps rest = option_map_or docs_in (slice_get gaps (length gaps - length rest)) []

-- where the gap in front of a place begins: where the place before it ends, or at the first byte
abbrev pub gap_start : List Token → ℕ → ℕ
gap_start places zero = 0
gap_start places (suc n) = option_map_or (λ p. p.end) (slice_get places n) 0

-- the documentation in front of the tokens that are left
abbrev pub docs_ahead : Tokens → List tokens → List Text
docs_ahead them = docs_by (gaps_from (text_of them) 0 them.places.now)

-- ---- refusals

-- a word
abbrev pub word_text : Word → Text
word_text word.Version = codes "version"
word_text word.Feature = codes "feature"

-- what is wanted
abbrev pub wanted_there : Wanted → wants
wanted_there (wanted.Mark m) = wants.AMark (mark_there m)
wanted_there (wanted.Keyword k) = wants.AKeyword (keyword_there k)
wanted_there (wanted.Word w) = wants.AWord (word_text w)
wanted_there wanted.Id = wants.AnId
wanted_there wanted.Version = wants.AVersion
wanted_there wanted.Number = wants.ANumber
wanted_there wanted.String = wants.AString
wanted_there wanted.«Type» = wants.AType
wanted_there wanted.Member = wants.AMember
wanted_there wanted.Item = wants.AnItem
wanted_there wanted.Attribute = wants.AnAttribute
wanted_there wanted.Gate = wants.AGate
wanted_there wanted.Shallower = wants.Shallower

-- A refusal is that of a reading, want of memory aside.
abbrev pub RefusesAs : {X : Type 0} → Tokens → Refusal → Reading X → Type 0
RefusesAs them refusal.Memory reading = Unit {0}
RefusesAs them (refusal.Wanted w at) reading = reading ≡ Refused (wanted_there w) (ahead them at)
