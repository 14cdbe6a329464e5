-- Types at the top, whose entries are kept as a part of the input.
use Rattle.comp_bytes.specs.Levels.{PartType as RawPartType, entry_at, wraps, shows}
use Rattle.read_follow.specs.{ExternNames.raw_name, Bodies.items_in, Bodies.AreEntries}
use Rattle.read_follow.specs.declared.part_types.PartType.{PartType}
use Rattle.read_follow.specs.declared.part_types.PartType.TheVariants as parts

abbrev pub raw_part_type : PartType → RawPartType
raw_part_type (parts.Wraps es name) = wraps (items_in entry_at es.body) (raw_name name)
raw_part_type (parts.Shows es) = shows (items_in entry_at es.body)

-- the bytes of its body are its entries
abbrev pub IsWholePart : PartType → Type 0
IsWholePart (parts.Wraps es name) = AreEntries es
IsWholePart (parts.Shows es) = AreEntries es
