use Rattle.std.proofs.Common.{map}
use Rattle.read_follow.specs.Pieces.{raw_piece}
use Rattle.comp_read.proofs.Followed.{none_followed}
use Rattle.comp_read.proofs.reading.wanted_of_pieces.Goals as goal

pub returns-in-Err-clause-absent : goal.returns-in-Err-clause-absent
returns-in-Err-clause-absent c = none_followed c.args.wanted (map raw_piece c.args.pieces.items) c.in-Err.refusal c.in-Err.ensures.absent
