use Rattle.std.proofs.Common.{Some, None}
use Rattle.comp_bytes.specs.{Levels.held_at, Reading.u32_at}
use Rattle.read_follow.proofs.{HeldLaws.held_behind, Refusing.refused}
use Rattle.read_follow.proofs.bodies.held_of.Goals as goal

pub returns-in-Ok-clause-found : goal.returns-in-Ok-clause-found
returns-in-Ok-clause-found c = rw (held_behind c.args.bytes.now (Some (c.in-Ok.count, c.in-Ok.items.now)) c.in-Ok.ensures) c.held_items.ensures.found

pub returns-in-Err-clause-found : goal.returns-in-Err-clause-found
returns-in-Err-clause-found c = refused c.in-Err.refusal (u32_at c.args.bytes.now) (held_at c.args.bytes.now) (held_behind c.args.bytes.now None) c.in-Err.ensures
