use Rattle.read_rules.proofs.PlaceLaws.{number_seen, number_new, numbers_all}
use Rattle.read_rules.proofs.places.are_once.Goals as goal

pub returns-then-not-branch : goal.returns-then-not-branch
returns-then-not-branch c = number_seen c.args.places.now c.loop-place.place-index _ c.loop-place-test.true c.loop-place.seen.keys c.in_ok-insert.field-0 c.in_ok-insert.ensures.added
    c.loop-place.invariant c.if-not-branch.true

pub loop-place-preserved : goal.loop-place-preserved
loop-place-preserved c = number_new c.args.places.now c.loop-place.place-index _ c.loop-place-test.true c.loop-place.seen.keys c.in_ok-insert.field-0 c.in_ok-insert.ensures.added
    c.loop-place.invariant c.insert.new.self.keys c.if-not-branch.false c.in_ok-insert.ensures.keys

pub returns : goal.returns
returns c = numbers_all c.args.places.now c.loop-place.place-index c.loop-place.seen.keys c.loop-place-test.false c.loop-place.invariant
