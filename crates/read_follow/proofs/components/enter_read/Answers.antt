use Rattle.read_follow.specs.{Bodies.raw_entry, Scopes.world_of}
use Rattle.read_follow.proofs.{ComponentLaws.read_goes, ComponentLaws.read_stops, ComponentLaws.stops_alike, ComponentLaws.unread_stops}
use Rattle.read_follow.proofs.components.enter_read.Goals as goal

pub returns-in-Ok-enter-clause-followed : goal.returns-in-Ok-enter-clause-followed
returns-in-Ok-enter-clause-followed c = read_goes (world_of c.args.table.now c.args.functions.now c.args.places.now c.args.scope.now) c.args.bytes.now (raw_entry c.in-Ok.entry) c.in-Ok.rest.now
    (world_of c.enter.new.table c.enter.new.functions c.enter.new.places c.enter.new.scope) c.in-Ok.ensures.found c.in-Ok-enter.ensures.followed

pub returns-in-Ok-clause-absent : goal.returns-in-Ok-clause-absent
returns-in-Ok-clause-absent c =
    let old = world_of c.args.table.now c.args.functions.now c.args.places.now c.args.scope.now in
    stops_alike c.in-Err-enter.refusal c.seen_at.result c.args.bytes.now old c.enter.new.places c.seen_at.ensures
    (read_stops old c.args.bytes.now (raw_entry c.in-Ok.entry) c.in-Ok.rest.now c.enter.new.places c.in-Err-enter.refusal c.in-Ok.ensures.found c.in-Err-enter.ensures.absent)

pub returns-clause-absent : goal.returns-clause-absent
returns-clause-absent c = unread_stops (world_of c.args.table.now c.args.functions.now c.args.places.now c.args.scope.now) c.args.bytes.now c.args.places.now c.in-Err.refusal c.in-Err.ensures.found
