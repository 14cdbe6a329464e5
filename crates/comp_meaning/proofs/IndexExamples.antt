-- Worked examples: numbers, indexes and names with attributes.
use Rattle.std.proofs.Common.{◌≡◌, [], ◌∷◌, Some, None, false, true, refl}
use Rattle.std.specs.{Prelude.codes, Prelude.is_some, List.list_any}
use Rattle.comp_bytes.specs.declared.forms.ComponentValType.TheVariants as values
use Rattle.comp_bytes.specs.declared.forms.PrimitiveValType.TheVariants as primitives
use Rattle.comp_bytes.specs.Reading.{u32_at, type_index_at, name_at, value_type_at, extern_name_at}
use Rattle.comp_meaning.proofs.Computing.{computes}

-- a number of five bytes, one that is too large, and a name
numbers : (u32_at (0x81 ∷ 0x80 ∷ 0x80 ∷ 0x80 ∷ 0x00 ∷ 7 ∷ []) ≡ Some (1, 7 ∷ [])) × (u32_at (0x81 ∷ 0x80 ∷ 0x80 ∷ 0x80 ∷ 0x10 ∷ 7 ∷ []) ≡ None)
    × (name_at (3 ∷ 0x66 ∷ 0x6f ∷ 0x6f ∷ 9 ∷ []) ≡ Some (codes "foo", 9 ∷ []))
unfolding computes
numbers = (refl, refl, refl)

-- indexes in value types: 64 takes two bytes, the greatest five, and error-context is a primitive, where 100 is spelt in two
indexes : (type_index_at (0xc0 ∷ 0 ∷ []) ≡ Some (64, [])) × (type_index_at (0xff ∷ 0xff ∷ 0xff ∷ 0xff ∷ 0x0f ∷ []) ≡ Some (0xffffffff, []))
    × (value_type_at (0x64 ∷ []) ≡ Some (values.Primitive primitives.ErrorContext, [])) × (value_type_at (0xe4 ∷ 0 ∷ []) ≡ Some (values.Type_ 100, []))
unfolding computes
indexes = (refl, refl, refl, refl)

-- no index: a last byte with the bit of 64, a number past the greatest, one of six bytes
no_indexes : list_any (λ bytes. is_some (type_index_at bytes)) ((0x40 ∷ []) ∷ (0x80 ∷ 0x80 ∷ 0x80 ∷ 0x80 ∷ 0x10 ∷ []) ∷ (0x80 ∷ 0x80 ∷ 0x80 ∷ 0x80 ∷ 0x80 ∷ 0 ∷ []) ∷ []) ≡ false
unfolding computes
no_indexes = refl

-- attributes: the tags rise, none stands twice, there is at least one, each is known, and their number may be spelt longer
attributes_read : is_some (extern_name_at (2 ∷ 1 ∷ 0x78 ∷ 0x82 ∷ 0 ∷ 0 ∷ 1 ∷ 0x79 ∷ 2 ∷ 0 ∷ [])) ≡ true
unfolding computes
attributes_read = refl

attributes_refused : list_any (λ bytes. is_some (extern_name_at bytes)) ((2 ∷ 1 ∷ 0x78 ∷ 2 ∷ 2 ∷ 0 ∷ 0 ∷ 1 ∷ 0x79 ∷ []) ∷ (2 ∷ 1 ∷ 0x78 ∷ 2 ∷ 2 ∷ 0 ∷ 2 ∷ 0 ∷ []) ∷ (2 ∷ 1 ∷ 0x78 ∷ 0 ∷ [])
    ∷ (2 ∷ 1 ∷ 0x78 ∷ 1 ∷ 3 ∷ 0 ∷ []) ∷ []) ≡ false
unfolding computes
attributes_refused = refl
