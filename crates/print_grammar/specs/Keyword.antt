-- The keywords of WIT text (WIT.md, Keywords): none of them is an id without `%` in front.
use Rattle.std.specs.Prelude.{Bool, List, [], ◌∷◌, Option, None, Some, codes, is_some, if◌then◌else◌}
use Rattle.wit_model.specs.Text.{Text, text_eq}

-- The primitive types (WIT.md, Types).
pub data PrimitiveName : Type 0 where
  Bool_ U8 U16 U32 U64 S8 S16 S32 S64 F32 F64 Char String ErrorContext : PrimitiveName

-- how a primitive type is written
abbrev pub primitive_text : PrimitiveName → Text
primitive_text Bool_ = codes "bool"
primitive_text U8 = codes "u8"
primitive_text U16 = codes "u16"
primitive_text U32 = codes "u32"
primitive_text U64 = codes "u64"
primitive_text S8 = codes "s8"
primitive_text S16 = codes "s16"
primitive_text S32 = codes "s32"
primitive_text S64 = codes "s64"
primitive_text F32 = codes "f32"
primitive_text F64 = codes "f64"
primitive_text Char = codes "char"
primitive_text String = codes "string"
primitive_text ErrorContext = codes "error-context"

-- A keyword: a primitive type's, or another.
pub data Keyword : Type 0 where
  PrimitiveWord : PrimitiveName → Keyword
  Use Type_ Func Float32 Float64 Resource Record Flags Variant Enum Option_ Result Future Stream List_ Own Borrow Underscore As From Static Interface Tuple
      World Import Export Package With Include Constructor Async Map : Keyword

-- each keyword's text
abbrev pub keyword_texts : List (Text × Keyword)
keyword_texts =
    (codes "bool", PrimitiveWord Bool_) ∷ (codes "u8", PrimitiveWord U8) ∷ (codes "u16", PrimitiveWord U16) ∷ (codes "u32", PrimitiveWord U32)
    ∷ (codes "u64", PrimitiveWord U64)
    ∷ (codes "s8", PrimitiveWord S8) ∷ (codes "s16", PrimitiveWord S16) ∷ (codes "s32", PrimitiveWord S32) ∷ (codes "s64", PrimitiveWord S64)
    ∷ (codes "f32", PrimitiveWord F32)
    ∷ (codes "f64", PrimitiveWord F64) ∷ (codes "char", PrimitiveWord Char) ∷ (codes "string", PrimitiveWord String)
    ∷ (codes "error-context", PrimitiveWord ErrorContext) ∷ (codes "use", Use)
    ∷ (codes "type", Type_) ∷ (codes "func", Func) ∷ (codes "float32", Float32) ∷ (codes "float64", Float64) ∷ (codes "resource", Resource)
    ∷ (codes "record", Record) ∷ (codes "flags", Flags) ∷ (codes "variant", Variant) ∷ (codes "enum", Enum) ∷ (codes "option", Option_)
    ∷ (codes "result", Result) ∷ (codes "future", Future) ∷ (codes "stream", Stream) ∷ (codes "list", List_) ∷ (codes "own", Own)
    ∷ (codes "borrow", Borrow) ∷ (codes "_", Underscore) ∷ (codes "as", As) ∷ (codes "from", From) ∷ (codes "static", Static)
    ∷ (codes "interface", Interface) ∷ (codes "tuple", Tuple) ∷ (codes "world", World) ∷ (codes "import", Import) ∷ (codes "export", Export)
    ∷ (codes "package", Package) ∷ (codes "with", With) ∷ (codes "include", Include) ∷ (codes "constructor", Constructor) ∷ (codes "async", Async)
    ∷ (codes "map", Map) ∷ []

-- the first entry with this text
abbrev pub entry_of : List (Text × Keyword) → Text → Option Keyword
entry_of [] text = None
entry_of (entry ∷ entries) text = if text_eq entry.0 text then Some entry.1 else entry_of entries text

-- the keyword that a text is, if it is one
abbrev pub keyword_of : Text → Option Keyword
keyword_of text = entry_of keyword_texts text

-- whether a text is a keyword
abbrev pub is_keyword : Text → Bool
is_keyword text = is_some (keyword_of text)

-- an id in text: with `%` in front where it is a keyword
abbrev pub escaped : Text → Text
escaped label = if is_keyword label then 37 ∷ label else label
