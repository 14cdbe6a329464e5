-- What the first byte of a type begins (Component Model Binary.md, "Type Definitions"), said as tests of the byte, one after the other.
use Rattle.std.specs.Prelude.{◌≡◌, ℕ, Bool, true, false, List, [], ◌∷◌, ◌++◌, Option, Some, None, ◌==◌, if◌then◌else◌, option_map}
use Rattle.comp_bytes.specs.declared.forms.PrimitiveValType.{PrimitiveValType}
use Rattle.comp_bytes.specs.declared.forms.ComponentValType.TheVariants as values
use Rattle.comp_bytes.specs.Raw.{DefinedType, FunctionType, Declaration}
use Rattle.comp_bytes.specs.Reading.{Reader, choose, or_else, as_at, pair_at, vector_at, field_at, case_at, value_type_at, type_index_at, name_at, optional_at, u32_at, result_list_at, function_of, primitive_forms, defined_type_forms, function_type_forms}

-- the primitive that stands beside the byte
abbrev pub primitive_in : List (ℕ × PrimitiveValType) → ℕ → Option PrimitiveValType
primitive_in [] b = None
primitive_in (p ∷ ps) b = if b == p.0 then Some p.1 else primitive_in ps b

-- the primitive whose byte this is
unfoldable pub primitive_beside : ℕ → Option PrimitiveValType
primitive_beside b = primitive_in primitive_forms b

-- the definition of a value type behind its first byte
unfoldable pub defined_type_at : ℕ → Reader DefinedType
defined_type_at tag bytes =
    if tag == 0x72 then as_at DefinedType.record_of (vector_at field_at) bytes
    else if tag == 0x71 then as_at DefinedType.variant_of (vector_at case_at) bytes
    else if tag == 0x70 then as_at DefinedType.list_of value_type_at bytes
    else if tag == 0x67 then as_at (λ p. DefinedType.fixed_length_list_of p.0 p.1) (pair_at value_type_at u32_at) bytes
    else if tag == 0x6f then as_at DefinedType.tuple_of (vector_at value_type_at) bytes
    else if tag == 0x6e then as_at DefinedType.flags_of (vector_at name_at) bytes
    else if tag == 0x6d then as_at DefinedType.enum_of (vector_at name_at) bytes
    else if tag == 0x6b then as_at DefinedType.option_of value_type_at bytes
    else if tag == 0x6a then as_at (λ p. DefinedType.result_of p.0 p.1) (pair_at (optional_at value_type_at) (optional_at value_type_at)) bytes
    else if tag == 0x69 then as_at DefinedType.own_of u32_at bytes
    else if tag == 0x68 then as_at DefinedType.borrow_of u32_at bytes
    else if tag == 0x66 then as_at DefinedType.stream_of (optional_at value_type_at) bytes
    else if tag == 0x65 then as_at DefinedType.future_of (optional_at value_type_at) bytes
    else if tag == 0x63 then as_at (λ p. DefinedType.map_of p.0 p.1) (pair_at value_type_at value_type_at) bytes
    else option_map (λ p. (DefinedType.primitive p, bytes)) (primitive_beside tag)

-- the type of a function behind its first byte
unfoldable pub function_type_at : Bool → Reader FunctionType
function_type_at is_async = as_at (function_of is_async) (pair_at (vector_at field_at) result_list_at)

-- a declaration of a type behind the type's first byte
unfoldable pub declared_type_at : ℕ → Reader Declaration
declared_type_at tag bytes =
    if tag == 0x40 then as_at Declaration.function (function_type_at false) bytes
    else if tag == 0x43 then as_at Declaration.function (function_type_at true) bytes
    else as_at Declaration.defined (defined_type_at tag) bytes

-- ---- laws

-- Behind its first byte the form is read that the byte chooses.
abbrev pub DefinitionsAreChosen : Type 0
DefinitionsAreChosen = (tag : ℕ) (bytes : List ℕ) → choose (defined_type_forms (λ d. d)) tag bytes ≡ defined_type_at tag bytes

abbrev pub DeclaredTypesAreChosen : Type 0
DeclaredTypesAreChosen = (tag : ℕ) (bytes : List ℕ) → choose (function_type_forms Declaration.function ++ defined_type_forms Declaration.defined) tag bytes
    ≡ declared_type_at tag bytes

-- A value type is the primitive of its first byte, or an index, of which that byte is a part.
abbrev pub ValueTypesAreChosen : Type 0
ValueTypesAreChosen = (b : ℕ) (rest : List ℕ) → value_type_at (b ∷ rest) ≡ or_else (option_map (λ p. (values.Primitive p, rest)) (primitive_beside b))
    (as_at values.Type_ type_index_at (b ∷ rest))
