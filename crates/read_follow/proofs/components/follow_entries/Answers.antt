use Rattle.read_follow.specs.Scopes.{start_of, world_of}
use Rattle.read_follow.proofs.ComponentLaws.{entered_on, followed_none, followed_whole, stopped_on}
use Rattle.read_follow.proofs.{NameTableLaws.no_names, ScopeLaws.world_with}
use Rattle.read_follow.proofs.components.follow_entries.Goals as goal

pub loop-init : goal.loop-init
loop-init c =
    let s = c.new_scope-scope.ensures in (
      followed_none c.args.home c.args.table.now c.args.functions.now c.args.places.now c.args.entries.body c.requires.tables c.requires.home c.requires.fresh c.requires.entries.whole
          (world_of c.args.table.now c.args.functions.now c.args.places.now c.new_scope-scope.result)
          (λ i. world_with (s.home i) c.args.table.now c.args.functions.now c.args.places.now (s.slots i) (s.instances i) (s.imports i) (s.exports i) (s.used i)),
      (no_names c.new-names.result c.new_scope-scope.result.instances.items c.new-names.ensures.empty, c.requires.entries.first),
    )

pub returns-in-Err-clause-absent : goal.returns-in-Err-clause-absent
returns-in-Err-clause-absent c = stopped_on (start_of c.args.home c.args.table.now c.args.functions.now c.args.places.now) c.args.entries.body c.loop.counter c.loop.rest.now
    (world_of c.loop.table c.loop.functions c.loop.places c.loop.scope) c.loop.invariant.0 c.loop-test.true c.enter_front.new.places c.in-Err.refusal c.in-Err.ensures.grows c.in-Err.ensures.absent

pub loop-preserved : goal.loop-preserved
loop-preserved c = (
  entered_on (start_of c.args.home c.args.table.now c.args.functions.now c.args.places.now) c.args.entries.body c.loop.counter c.loop.rest.now
      (world_of c.loop.table c.loop.functions c.loop.places c.loop.scope) c.loop.invariant.0 c.loop-test.true
      c.in-Ok.behind.now (world_of c.enter_front.new.table c.enter_front.new.functions c.enter_front.new.places c.enter_front.new.scope) c.in-Ok.ensures.followed,
  (c.in-Ok.ensures.names, tt),
)

pub returns-clause-followed : goal.returns-clause-followed
returns-clause-followed c = followed_whole (start_of c.args.home c.args.table.now c.args.functions.now c.args.places.now) c.args.entries.body c.loop.counter c.loop.rest.now
    (world_of c.loop.table c.loop.functions c.loop.places c.loop.scope) c.loop.invariant.0 c.loop.auto.counter-end c.loop-test.false
