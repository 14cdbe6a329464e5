use Rattle.std.proofs.Common.{sym, ◌∙◌, Some, None}
use Rattle.comp_bytes.specs.{Levels.held_at, Levels.entry_at, Reading.declaration_at}
use Rattle.read_follow.specs.{Declares.raw_declared, Bodies.held_declaration_at, Bodies.items_in}
use Rattle.read_follow.proofs.{EntryLaws.held_front, EntryLaws.plain_front, Refusing.refused}
use Rattle.read_follow.proofs.bodies.entry_of.Goals as goal

pub returns-in-Ok-clause-found : goal.returns-in-Ok-clause-found
returns-in-Ok-clause-found c = held_front c.args.bytes.now c.split_at.result.1.now (Some (items_in held_declaration_at c.in-Ok.body, c.in-Ok.rest.now))
    (sym c.starts_with.ensures.value ∙ c.if-starts_with.true) c.split_at.ensures.back c.in-Ok.ensures.found

pub returns-in-Err-clause-found : goal.returns-in-Err-clause-found
returns-in-Err-clause-found c = refused c.in-Err.refusal (held_at c.split_at.result.1.now) (entry_at c.args.bytes.now)
    (held_front c.args.bytes.now c.split_at.result.1.now None (sym c.starts_with.ensures.value ∙ c.if-starts_with.true) c.split_at.ensures.back) c.in-Err.ensures.found

pub returns-in-Ok-declaration_of-clause-found : goal.returns-in-Ok-declaration_of-clause-found
returns-in-Ok-declaration_of-clause-found c = plain_front c.args.bytes.now (Some (raw_declared c.in-Ok-declaration_of.declared, c.in-Ok-declaration_of.rest.now))
    (sym c.starts_with.ensures.value ∙ c.if-starts_with.false) c.in-Ok-declaration_of.ensures

pub returns-in-Err-declaration_of-clause-found : goal.returns-in-Err-declaration_of-clause-found
returns-in-Err-declaration_of-clause-found c = refused c.in-Err-declaration_of.refusal (declaration_at c.args.bytes.now) (entry_at c.args.bytes.now)
    (plain_front c.args.bytes.now None (sym c.starts_with.ensures.value ∙ c.if-starts_with.false)) c.in-Err-declaration_of.ensures
