use Rattle.read_follow.specs.{Scopes.world_of}
use Rattle.read_follow.proofs.ComponentLaws.{function_enters, function_stops, stops_alike}
use Rattle.read_follow.proofs.components.enter_front.Goals as goal

pub returns-in-Ok-clause-followed : goal.returns-in-Ok-clause-followed
returns-in-Ok-clause-followed c = function_enters (world_of c.args.table.now c.args.functions.now c.args.places.now c.args.scope.now) c.requires.world c.in-Some.is_async c.args.bytes.now
    c.in-Some.behind.now c.in-Some.ensures.some c.in-Ok.rest.now c.define_function_at.new.functions c.define_function_at.new.slots.items c.in-Ok.ensures.defined

pub returns-in-Err-clause-absent : goal.returns-in-Err-clause-absent
returns-in-Err-clause-absent c =
    let old = world_of c.args.table.now c.args.functions.now c.args.places.now c.args.scope.now in
    stops_alike c.in-Err.refusal c.seen_at.result c.args.bytes.now old c.args.places.now c.seen_at.ensures
    (function_stops old c.requires.world c.in-Some.is_async c.args.bytes.now c.in-Some.behind.now c.in-Some.ensures.some c.in-Err.refusal c.in-Err.ensures.refused)
