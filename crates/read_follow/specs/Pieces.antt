-- The sections of a component as they are kept.
use Rattle.std.specs.{Prelude.map, Prelude.Some, List.AllByRecursion}
use Rattle.comp_bytes.specs.{Raw.TopExport as RawExport, Levels.Piece as RawPiece, Levels.custom, Levels.types, Levels.exports, Levels.piece_of}
use Rattle.comp_bytes.specs.Reading.{Reader, ◌>>=◌, frame_at}
use Rattle.read_follow.specs.{ExternNames.raw_name, PartTypes.raw_part_type, PartTypes.IsWholePart}
use Rattle.read_follow.specs.declared.{refusal.Refusal.Refusal, sections.TopExport.TopExport, sections.Piece.Piece}
use Rattle.read_follow.specs.declared.refusal.Refusal.TheVariants as refusals
use Rattle.read_follow.specs.declared.sections.Piece.TheVariants as pieces

abbrev pub raw_export : TopExport → RawExport
raw_export e = record { exported_as = raw_name e.name; type_index = e.index }

abbrev pub raw_piece : Piece → RawPiece
raw_piece (pieces.Custom name contents) = custom name.now contents.now
raw_piece (pieces.Types ps behind) = types (map raw_part_type ps.items)
raw_piece (pieces.Exports es behind) = exports (map raw_export es.items)

-- the bytes of each body are its entries
abbrev pub IsWholePiece : Piece → Type 0
IsWholePiece (pieces.Types ps behind) = AllByRecursion IsWholePart ps.items
IsWholePiece _ = Unit {0}

-- the section in front
unfoldable pub piece_at : Reader RawPiece
piece_at bytes = do
  frame ← frame_at bytes
  p ← piece_of frame.0.0 frame.0.1
  Some (p, frame.1)

-- both for want of memory, or both because of the bytes
abbrev pub AreAlike : Refusal → Refusal → Type 0
AreAlike refusals.Memory refusals.Memory = Unit {0}
AreAlike (refusals.Absent cause left) (refusals.Absent other more) = Unit {0}
AreAlike _ _ = ⊥
