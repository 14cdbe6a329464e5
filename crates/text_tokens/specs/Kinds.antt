-- The tokens of the grammar, as the code's kinds.
use Rattle.std.specs.Prelude.{ℕ, ◌==◌, List, [], ◌∷◌, Option, None, Some, if◌then◌else◌}
use Rattle.std.specs.Borrow.{Bor}
use Rattle.wit_model.specs.Text.{Text, text_eq}
use Rattle.print_grammar.specs.Keyword.{PrimitiveName as names, Keyword as keywords}
use Rattle.print_grammar.specs.Token.{Mark as marks, Token as tokens}
use Rattle.text_tokens.specs.declared.keyword.Primitive.{Primitive}
use Rattle.text_tokens.specs.declared.keyword.Primitive.TheVariants as primitives
use Rattle.text_tokens.specs.declared.keyword.Keyword.{Keyword}
use Rattle.text_tokens.specs.declared.keyword.Keyword.TheVariants as key
use Rattle.text_tokens.specs.declared.token.Mark.{Mark}
use Rattle.text_tokens.specs.declared.token.Mark.TheVariants as mark
use Rattle.text_tokens.specs.declared.token.Kind.{Kind}
use Rattle.text_tokens.specs.declared.token.Kind.TheVariants as kind

-- a primitive type's name
abbrev pub primitive_here : names → Primitive
primitive_here names.Bool_ = primitives.Bool
primitive_here names.U8 = primitives.U8
primitive_here names.U16 = primitives.U16
primitive_here names.U32 = primitives.U32
primitive_here names.U64 = primitives.U64
primitive_here names.S8 = primitives.S8
primitive_here names.S16 = primitives.S16
primitive_here names.S32 = primitives.S32
primitive_here names.S64 = primitives.S64
primitive_here names.F32 = primitives.F32
primitive_here names.F64 = primitives.F64
primitive_here names.Char = primitives.Char
primitive_here names.String = primitives.String
primitive_here names.ErrorContext = primitives.ErrorContext

-- a keyword
abbrev pub keyword_here : keywords → Keyword
keyword_here (keywords.PrimitiveWord name) = key.PrimitiveWord (primitive_here name)
keyword_here keywords.Use = key.Use
keyword_here keywords.Type_ = key.Type_
keyword_here keywords.Func = key.Func
keyword_here keywords.Float32 = key.Float32
keyword_here keywords.Float64 = key.Float64
keyword_here keywords.Resource = key.Resource
keyword_here keywords.Record = key.Record
keyword_here keywords.Flags = key.Flags
keyword_here keywords.Variant = key.Variant
keyword_here keywords.Enum = key.Enum
keyword_here keywords.Option_ = key.Option_
keyword_here keywords.Result = key.Result
keyword_here keywords.Future = key.Future
keyword_here keywords.Stream = key.Stream
keyword_here keywords.List_ = key.List_
keyword_here keywords.Own = key.Own
keyword_here keywords.Borrow = key.Borrow
keyword_here keywords.Underscore = key.Underscore
keyword_here keywords.As = key.As
keyword_here keywords.From = key.From
keyword_here keywords.Static = key.Static
keyword_here keywords.Interface = key.Interface
keyword_here keywords.Tuple = key.Tuple
keyword_here keywords.World = key.World
keyword_here keywords.Import = key.Import
keyword_here keywords.Export = key.Export
keyword_here keywords.Package = key.Package
keyword_here keywords.With = key.With
keyword_here keywords.Include = key.Include
keyword_here keywords.Constructor = key.Constructor
keyword_here keywords.Async = key.Async
keyword_here keywords.Map = key.Map

-- a mark
abbrev pub mark_here : marks → Mark
mark_here marks.OpenBrace = mark.OpenBrace
mark_here marks.CloseBrace = mark.CloseBrace
mark_here marks.OpenParen = mark.OpenParen
mark_here marks.CloseParen = mark.CloseParen
mark_here marks.Less = mark.Less
mark_here marks.Greater = mark.Greater
mark_here marks.Colon = mark.Colon
mark_here marks.Semi = mark.Semi
mark_here marks.Comma = mark.Comma
mark_here marks.Dot = mark.Dot
mark_here marks.Equals = mark.Equals
mark_here marks.Slash = mark.Slash
mark_here marks.At = mark.At
mark_here marks.Arrow = mark.Arrow

-- what a token is, without its text
abbrev pub kind_here : tokens → Kind
kind_here (tokens.Word label) = kind.Word
kind_here (tokens.Escaped label) = kind.Escaped
kind_here (tokens.Key keyword) = kind.Key (keyword_here keyword)
kind_here (tokens.VersionText text) = kind.Version
kind_here (tokens.Digits number) = kind.Digits
kind_here (tokens.Quoted characters) = kind.Quoted
kind_here (tokens.Punctuation m) = kind.Punctuation (mark_here m)

-- the keyword of the first entry with this text
abbrev pub entry_in : List (Bor Text × Keyword) → Text → Option Keyword
entry_in [] text = None
entry_in (entry ∷ entries) text = if text_eq entry.0.now text then Some entry.1 else entry_in entries text

-- the same, of the grammar's table
abbrev pub entry_here : List (Text × keywords) → Text → Option Keyword
entry_here [] text = None
entry_here (entry ∷ entries) text = if text_eq entry.0 text then Some (keyword_here entry.1) else entry_here entries text

-- what the mark is that begins with this byte, if one does
abbrev pub kind_with : List (Text × tokens) → ℕ → Option Kind
kind_with [] c = None
kind_with (([], t) ∷ entries) c = kind_with entries c
kind_with ((b ∷ bs, t) ∷ entries) c = if b == c then Some (kind_here t) else kind_with entries c
