use Rattle.std.proofs.Common.{◌≡◌, map, length}
use Rattle.std.specs.List.{AllByRecursion}
use Rattle.comp_bytes.specs.Levels.{pieces_in}
use Rattle.read_follow.specs.Pieces.{raw_piece, IsWholePiece}
use Rattle.read_follow.proofs.SectionLaws.{with_pieces}
use Rattle.read_follow.proofs.sections.pieces_of.Given as goal

abbrev pub invariant-loop-rest : goal.invariant-loop-rest
invariant-loop-rest l = AllByRecursion IsWholePiece l.pieces.items × (with_pieces (map raw_piece l.pieces.items) (pieces_in l.rest) ≡ pieces_in l.fn.bytes)

abbrev pub decreases-loop-rest : goal.decreases-loop-rest
decreases-loop-rest l = length l.rest
