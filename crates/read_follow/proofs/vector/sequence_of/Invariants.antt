use Rattle.std.proofs.Common.{◌≡◌, map, ◌-◌}
use Rattle.std.specs.List.{AllByRecursion}
use Rattle.comp_bytes.specs.Reading.{sequence_at}
use Rattle.comp_bytes.proofs.SequenceSteps.{with_front}
use Rattle.read_follow.proofs.vector.sequence_of.Given as goal

abbrev pub invariant-loop : goal.invariant-loop
invariant-loop g l = AllByRecursion g.T.Form.whole l.items.items
    × (with_front (map g.T.Form.raw l.items.items) (sequence_at g.T.Form.reader (l.fn.count - l.counter) l.rest) ≡ sequence_at g.T.Form.reader l.fn.count l.fn.bytes)
