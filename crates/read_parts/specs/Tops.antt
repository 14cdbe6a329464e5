-- The types and the exports at the top of a component, as they are kept (Component Model Binary.md, "Index Spaces").
use Rattle.std.specs.Prelude.{◌≡◌, ℕ, Bool, not, ◌&&◌, ◌==◌, List, [], ◌∷◌, ◌++◌, map, Option, slice_get}
use Rattle.std.specs.{Borrow.Bor, List.AllByRecursion, List.list_any}
use Rattle.wit_model.specs.{Text.Text, Names.is_label}
use Rattle.comp_bytes.specs.Reading.{◌>>=◌}
use Rattle.comp_meaning.specs.{ByLevels.Top, Follow.provided, Reads.is_bare_name}
use Rattle.read_follow.specs.declared.sections.TopExport.{TopExport}
use Rattle.read_follow.specs.{ExternNames.raw_name, PartTypes.raw_part_type, PartTypes.IsWholePart}
use Rattle.read_parts.specs.declared.tops.{Exported.Exported, TopType.TopType, Tops.Tops}

abbrev pub label_and_number : Exported → Text × ℕ
label_and_number x = (x.label.now, x.number)

abbrev pub empty_top : Top
empty_top = record { types = []; slots = []; exported = [] }

-- what was gone along, as the definition has it
abbrev pub top_of : Tops → Top
top_of t = record { types = map (λ (x : TopType). raw_part_type x.part) t.types.items; slots = t.slots.items; exported = map label_and_number t.exported.items }

-- An export is of a type that none has exported, under a label without attributes.
abbrev pub may_export : Tops → TopExport → ℕ → Bool
may_export t e n = is_bare_name (raw_name e.name) && (is_label e.name.text.now && not (list_any (λ m. m == n) t.numbers.keys))

-- the number of the type that an export exports
abbrev pub number_found : Tops → TopExport → Option ℕ
number_found t e = slice_get t.slots.items e.index >>= λ n. provided (may_export t e n) n

-- The bytes of each body are its entries, and the numbers of the types that are exported are kept a second time.
pub record AreTops (t : Tops) : Type 0 where
  pub whole : AllByRecursion (λ (x : TopType). IsWholePart x.part) t.types.items
  pub numbers : t.numbers.keys ≡ map (λ (x : Exported). x.number) t.exported.items

-- The type of this number is exported under the label, and the export takes the next index.
pub record IsExportAdded (old new : Tops) (label : Bor (List ℕ)) (number : ℕ) : Type 0 where
  pub types : new.types ≡ old.types
  pub slots : new.slots.items ≡ old.slots.items ++ number ∷ []
  pub exported : new.exported.items ≡ old.exported.items ++ record { label = label; number = number } ∷ []
  pub numbers : new.numbers.keys ≡ old.numbers.keys ++ number ∷ []
