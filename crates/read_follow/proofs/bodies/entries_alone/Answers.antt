use Rattle.comp_bytes.specs.{Reading.sequence_at, Levels.entry_at}
use Rattle.comp_bytes.proofs.LevelLaws.{entry_law}
use Rattle.read_follow.specs.Bodies.{behind}
use Rattle.read_follow.proofs.{BodyLaws.shorter, BodyLaws.is_body, BodyLaws.body_found, BodyLaws.none_found, Refusing.refused}
use Rattle.read_follow.proofs.bodies.entries_alone.Goals as goal

pub cut-body-requires : goal.cut-body-requires
cut-body-requires c = shorter entry_law c.args.count c.args.bytes.now c.in-Ok.rest.now c.in-Ok.ensures

pub returns-in-Ok-clause-whole : goal.returns-in-Ok-clause-whole
returns-in-Ok-clause-whole c = record {
  whole = is_body entry_law c.args.count c.args.bytes.now c.in-Ok.rest.now c.in-Ok.ensures c.cut-body.result c.cut-body.ensures.count c.cut-body.ensures.bytes;
  first = tt;
}

pub returns-in-Ok-clause-found : goal.returns-in-Ok-clause-found
returns-in-Ok-clause-found c = body_found entry_law c.args.count c.args.bytes.now c.in-Ok.rest.now c.in-Ok.ensures c.cut-body.result c.cut-body.ensures.count c.cut-body.ensures.bytes

pub returns-in-Err-clause-found : goal.returns-in-Err-clause-found
returns-in-Err-clause-found c = refused c.in-Err.refusal (behind (sequence_at entry_at c.args.count c.args.bytes.now)) (sequence_at entry_at c.args.count c.args.bytes.now)
    (none_found (sequence_at entry_at c.args.count c.args.bytes.now)) c.in-Err.ensures
