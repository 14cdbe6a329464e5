use Rattle.distinct_names.proofs.NameLaws.{name_seen, name_new, names_all}
use Rattle.distinct_names.proofs.many_are_distinct.Goals as goal

pub returns-then-not-branch : goal.returns-then-not-branch
returns-then-not-branch g c = name_seen g.T.Named.name_of c.args.items.now c.loop-item.item-index c.item-item.result c.loop-item-test.true c.item-item.is c.name.result c.name.ensures
    c.loop-item.seen.keys c.in_ok-insert.field-0 c.in_ok-insert.ensures.added c.loop-item.invariant c.if-not-branch.true

pub loop-item-preserved : goal.loop-item-preserved
loop-item-preserved g c = name_new g.T.Named.name_of c.args.items.now c.loop-item.item-index c.item-item.result c.loop-item-test.true c.item-item.is c.name.result c.name.ensures c.loop-item.seen.keys
    c.in_ok-insert.field-0 c.in_ok-insert.ensures.added c.loop-item.invariant c.insert.new.self.keys c.if-not-branch.false c.in_ok-insert.ensures.keys

pub returns : goal.returns
returns g c = names_all g.T.Named.name_of c.args.items.now c.loop-item.item-index c.loop-item.seen.keys c.loop-item-test.false c.loop-item.invariant
