use Rattle.std.proofs.Common.{map}
use Rattle.comp_bytes.specs.Levels.{pieces_in}
use Rattle.read_follow.specs.Pieces.{piece_at, raw_piece, IsWholePiece}
use Rattle.read_follow.proofs.{Refusing.refused, SectionLaws.piece_read, SectionLaws.piece_absent, SectionLaws.pieces_ended}
use Rattle.base_lemmas.proofs.{Elements.all_end, Lists.none_left, Lists.some_left}
use Rattle.read_follow.proofs.sections.pieces_of.Goals as goal

pub loop-rest-preserved : goal.loop-rest-preserved
loop-rest-preserved c = (
  rw c.in_ok-push-in-Ok.ensures.items (all_end IsWholePiece c.loop-rest.pieces.items c.in-Ok.piece c.loop-rest.invariant.0 c.in-Ok.ensures.whole),
  piece_read raw_piece c.loop-rest.pieces.items c.push.new.self.items c.in-Ok.piece c.args.bytes.now c.loop-rest.rest.now c.in-Ok.behind.now (some_left c.loop-rest.rest.now c.loop-rest-test.ensures)
      c.loop-rest.invariant.1 c.in-Ok.ensures.found c.in_ok-push-in-Ok.ensures.items,
)

pub returns-in-Err-clause-found : goal.returns-in-Err-clause-found
returns-in-Err-clause-found c = refused c.in-Err.refusal (piece_at c.loop-rest.rest.now) (pieces_in c.args.bytes.now)
    (piece_absent (map raw_piece c.loop-rest.pieces.items) c.args.bytes.now c.loop-rest.rest.now (some_left c.loop-rest.rest.now c.loop-rest-test.ensures) c.loop-rest.invariant.1)
    c.in-Err.ensures.found

pub returns-clause-found : goal.returns-clause-found
returns-clause-found c = pieces_ended (map raw_piece c.loop-rest.pieces.items) c.args.bytes.now c.loop-rest.rest.now (none_left c.loop-rest.rest.now c.loop-rest-test.ensures) c.loop-rest.invariant.1
