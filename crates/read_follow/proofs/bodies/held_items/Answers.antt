use Rattle.comp_bytes.specs.Reading.{sequence_at}
use Rattle.read_follow.specs.Bodies.{held_declaration_at, behind}
use Rattle.read_follow.proofs.{BodyLaws.shorter, BodyLaws.is_body, BodyLaws.body_found, BodyLaws.none_found, HeldLaws.held_declaration_law, Refusing.refused}
use Rattle.read_follow.proofs.bodies.held_items.Goals as goal

pub cut-requires : goal.cut-requires
cut-requires c = shorter held_declaration_law c.args.count c.args.bytes.now c.in-Ok.rest.now c.in-Ok.ensures

pub returns-in-Ok-clause-whole : goal.returns-in-Ok-clause-whole
returns-in-Ok-clause-whole c = is_body held_declaration_law c.args.count c.args.bytes.now c.in-Ok.rest.now c.in-Ok.ensures c.cut.result c.cut.ensures.count c.cut.ensures.bytes

pub returns-in-Ok-clause-found : goal.returns-in-Ok-clause-found
returns-in-Ok-clause-found c = body_found held_declaration_law c.args.count c.args.bytes.now c.in-Ok.rest.now c.in-Ok.ensures c.cut.result c.cut.ensures.count c.cut.ensures.bytes

pub returns-in-Err-clause-found : goal.returns-in-Err-clause-found
returns-in-Err-clause-found c = refused c.in-Err.refusal (behind (sequence_at held_declaration_at c.args.count c.args.bytes.now)) (sequence_at held_declaration_at c.args.count c.args.bytes.now)
    (none_found (sequence_at held_declaration_at c.args.count c.args.bytes.now)) c.in-Err.ensures
