use Rattle.read_follow.proofs.NameTableLaws.{behind_on, none_behind}
use Rattle.read_follow.proofs.name_tables.slots_by_name.Goals as goal

pub loop-shown-init : goal.loop-shown-init
loop-shown-init c q = rw (c.into_iter-shown-iterator.ensures.into_iter_gives, c.rev-shown-items.ensures.source, c.iter.ensures.rest, c.new-slots.ensures.empty) (none_behind q c.args.types.now)

pub loop-shown-preserved : goal.loop-shown-preserved
loop-shown-preserved c = behind_on c.next.new.self.iter.rest.now c.args.types.now c.in-Some.shown.now c.loop-shown.slots c.insert.new.self (rw c.in-Some.ensures.steps at c.loop-shown.invariant)
    c.in_ok-insert.ensures.updates
