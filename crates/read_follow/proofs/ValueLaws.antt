-- Value types by their first byte.
use Rattle.std.proofs.Common.{rules as std_rules, ◌≡◌, sym, ap, ◌∙◌, ℕ, List, ◌∷◌, Option, Some, None, option_map, length}
use Rattle.comp_bytes.specs.declared.forms.{PrimitiveValType.PrimitiveValType, ComponentValType.ComponentValType}
use Rattle.comp_bytes.specs.Reading.{or_else, as_at, tagged_at, value_type_at, type_index_at, last_byte_of, u32_at, unsigned_at, ◌>>=◌}
use Rattle.comp_bytes.specs.FirstByte.{primitive_beside}
use Rattle.comp_bytes.proofs.FirstByteLaws.{value_types_chosen}
use Rattle.comp_bytes.specs.declared.forms.ComponentValType.TheVariants as values

-- what stands there by the primitive of the first byte, if it is one
by_primitive : (b : ℕ) (rest : List ℕ) (o : Option PrimitiveValType) → primitive_beside b ≡ o
    → value_type_at (b ∷ rest) ≡ or_else (option_map (λ q. (values.Primitive q, rest)) o) (as_at values.Type_ type_index_at (b ∷ rest))
by_primitive b rest o e = value_types_chosen b rest ∙ ap (λ p. or_else (option_map (λ q. (values.Primitive q, rest)) p) (as_at values.Type_ type_index_at (b ∷ rest))) e

pub value_primitive : (b : ℕ) (rest : List ℕ) (p : PrimitiveValType) → primitive_beside b ≡ Some p → value_type_at (b ∷ rest) ≡ Some (values.Primitive p, rest)
value_primitive b rest p e = by_primitive b rest (Some p) e

pub no_value : (bytes : List ℕ) → length bytes ≡ 0 → value_type_at bytes ≡ None
unfolding value_type_at tagged_at as_at type_index_at last_byte_of u32_at unsigned_at
no_value x e = search std_rules

-- an index, seen as a value type
abbrev as_value : Option (ℕ × List ℕ) → Option (ComponentValType × List ℕ)
as_value found = found >>= λ x. Some (values.Type_ x.0, x.1)

-- where the first byte is no primitive's, an index stands there or nothing
pub value_index : (bytes : List ℕ) (b : ℕ) (rest : List ℕ) (found : Option (ℕ × List ℕ)) → bytes ≡ b ∷ rest → primitive_beside b ≡ None → type_index_at bytes ≡ found
    → value_type_at bytes ≡ as_value found
unfolding as_at
value_index bytes b rest found is away e = ap value_type_at is ∙ by_primitive b rest None away ∙ ap as_value (ap type_index_at (sym is) ∙ e)
