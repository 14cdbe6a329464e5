use Rattle.std.proofs.Common.{◌≡◌, drop, map}
use Rattle.comp_meaning.specs.{ByLevels.top_piece, Reads.steps}
use Rattle.read_follow.specs.Pieces.{raw_piece}
use Rattle.read_parts.specs.Tops.{empty_top, top_of, AreTops}
use Rattle.read_parts.proofs.tops.tops_of.Given as goal

abbrev pub invariant-loop-piece : goal.invariant-loop-piece
invariant-loop-piece l = record { tops : AreTops l.tops; kept : steps top_piece (top_of l.tops) (map raw_piece (drop l.piece-index l.pieces)) ≡ steps top_piece empty_top (map raw_piece l.pieces) }
