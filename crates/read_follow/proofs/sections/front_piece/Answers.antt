use Rattle.read_follow.proofs.sections.front_piece.Goals as goal
use Rattle.comp_bytes.proofs.PieceLaws.{frame_shorter}

pub returns-in-Ok-piece_of-clause-shorter : goal.returns-in-Ok-piece_of-clause-shorter
returns-in-Ok-piece_of-clause-shorter c = frame_shorter c.args.bytes.now (c.in-Ok.section.id, c.in-Ok.section.contents.now) c.in-Ok.rest.now c.in-Ok.ensures
