-- The types at the top by the labels under which they are exported.
use Rattle.std.specs.Prelude.{ℕ, List, map, Option, Some, slice_get}
use Rattle.wit_model.specs.Text.{Text}
use Rattle.comp_bytes.specs.{Levels.PartType, Reading.◌>>=◌}
use Rattle.comp_meaning.specs.{ByLevels.Top, Follow.each, Follow.when, Rules.distinct}
use Rattle.read_follow.specs.PartTypes.{raw_part_type}
use Rattle.read_parts.specs.declared.exported.ExportedPart.{ExportedPart}

abbrev pub raw_exported : ExportedPart → Text × PartType
raw_exported x = (x.label.now, raw_part_type x.part)

-- the type of this number, under the label
abbrev pub part_under : List PartType → Text × ℕ → Option (Text × PartType)
part_under types x = slice_get types x.1 >>= λ p. Some (x.0, p)

-- the types that are exported, if each label stands once
abbrev pub distinct_parts : Top → Option (List (Text × PartType))
distinct_parts top = when (distinct (map (λ x. x.0) top.exported)) (each (part_under top.types) top.exported)
