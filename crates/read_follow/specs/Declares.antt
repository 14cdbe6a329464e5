-- The raw forms that declarations of the code stand for, and declarations by their first bytes.
use Rattle.std.specs.Prelude.{ℕ, List, [], ◌∷◌, None, ◌==◌, if◌then◌else◌}
use Rattle.std.specs.Borrow.{Bor}
use Rattle.comp_bytes.specs.{Raw.Declaration, RawOf.raw_defined, RawOf.raw_function, RawOf.raw_alias, FirstByte.declared_type_at}
use Rattle.comp_bytes.specs.Reading.{Reader, as_at, just_at, pair_at, tagged_at, u32_at, alias_at, extern_name_at, description_at}
use Rattle.comp_bytes.specs.declared.forms.ComponentTypeRef.{ComponentTypeRef}
use Rattle.read_follow.specs.ExternNames.{raw_name}
use Rattle.read_follow.specs.declared.declarations.Declared.{Declared}
use Rattle.comp_bytes.specs.declared.forms.ComponentTypeRef.TheVariants as refs
use Rattle.read_follow.specs.declared.declarations.Declared.TheVariants as declared

abbrev pub raw_declared : Declared → Declaration
raw_declared (declared.Defined d) = Declaration.defined (raw_defined d)
raw_declared (declared.Function f) = Declaration.function (raw_function f)
raw_declared (declared.Alias a) = Declaration.alias_of (raw_alias a)
raw_declared (declared.Import name description) = Declaration.imported (raw_name name) description.kind
raw_declared (declared.Export name description) = Declaration.exported (raw_name name) description.kind

-- an attribute of a name: its tag and its text
abbrev pub attribute : ℕ × Bor (List ℕ) → ℕ × List ℕ
attribute a = (a.0, a.1.now)

-- the description of a type, behind the byte that says that it is one
unfoldable pub type_description_at : Reader ComponentTypeRef
type_description_at = tagged_at ((0, as_at refs.TypeEq u32_at) ∷ (1, just_at refs.SubResource) ∷ [])

-- a declared type by its first byte
unfoldable pub type_by_first : Reader Declaration
type_by_first [] = None
type_by_first (tag ∷ bytes) = declared_type_at tag bytes

-- a declaration by its first byte
unfoldable pub declaration_by_first : Reader Declaration
declaration_by_first [] = None
declaration_by_first (sort ∷ bytes) =
    if sort == 1 then type_by_first bytes
    else if sort == 2 then as_at Declaration.alias_of alias_at bytes
    else if sort == 3 then as_at (λ p. Declaration.imported p.0 p.1) (pair_at extern_name_at description_at) bytes
    else if sort == 4 then as_at (λ p. Declaration.exported p.0 p.1) (pair_at extern_name_at description_at) bytes
    else None
