-- What a component under construction was given, part by part, and the sections that the parts make.
use Rattle.std.specs.Prelude.{ℕ, ◌+◌, ◌^◌, Bool, nat_lt, List, [], ◌∷◌, length, map}
use Rattle.std.specs.List.{flat_map}
use Rattle.comp_bytes.specs.{Raw.TopType, Raw.TopExport, Raw.Section, Reading.plain_name, Writing.component_bytes}

-- a type, an export or a custom section, by its name and its contents
pub data Part : Type 0 where
  top_type : TopType → Part
  top_export : TopExport → Part
  custom : List ℕ → List ℕ → Part

-- the export of a type under a name without attributes
abbrev pub plain_export : List ℕ → ℕ → TopExport
plain_export name index = record { exported_as = plain_name name; type_index = index }

-- A part in front of sections: a type stands in the first section if that is one of types, and an export if it is one of exports.
abbrev pub with_part : Part → List Section → List Section
with_part (top_type t) [] = Section.types (t ∷ []) ∷ []
with_part (top_type t) (Section.types ts ∷ rest) = Section.types (t ∷ ts) ∷ rest
with_part (top_type t) (Section.exports es ∷ rest) = Section.types (t ∷ []) ∷ Section.exports es ∷ rest
with_part (top_type t) (Section.custom name contents ∷ rest) = Section.types (t ∷ []) ∷ Section.custom name contents ∷ rest
with_part (top_export e) [] = Section.exports (e ∷ []) ∷ []
with_part (top_export e) (Section.types ts ∷ rest) = Section.exports (e ∷ []) ∷ Section.types ts ∷ rest
with_part (top_export e) (Section.exports es ∷ rest) = Section.exports (e ∷ es) ∷ rest
with_part (top_export e) (Section.custom name contents ∷ rest) = Section.exports (e ∷ []) ∷ Section.custom name contents ∷ rest
with_part (custom name contents) sections = Section.custom name contents ∷ sections

-- the sections of parts in order: neighbouring types share one, and so do neighbouring exports
abbrev pub sections_of_parts : List Part → List Section
sections_of_parts [] = []
sections_of_parts (p ∷ ps) = with_part p (sections_of_parts ps)

-- how many type indexes parts take at the top of a component: one for each type and each export
abbrev pub top_slots : List Part → ℕ
top_slots [] = 0
top_slots (top_type t ∷ ps) = 1 + top_slots ps
top_slots (top_export e ∷ ps) = 1 + top_slots ps
top_slots (custom name contents ∷ ps) = top_slots ps

-- the component of the parts is shorter than 2 ^ 32 bytes, and so is each section, and each count in it is smaller
unfoldable pub fits_component : List Part → Bool
fits_component ps = nat_lt (length (component_bytes (sections_of_parts ps))) (2 ^ 32)

-- ---- from sections back to parts

-- the parts of a section
abbrev pub parts_in : Section → List Part
parts_in (Section.types ts) = map top_type ts
parts_in (Section.exports es) = map top_export es
parts_in (Section.custom name contents) = custom name contents ∷ []

-- the parts of sections, in order
abbrev pub parts_of : List Section → List Part
parts_of sections = flat_map parts_in sections
