use Rattle.std.proofs.Common.{◌≡◌, ◌-◌}
use Rattle.comp_bytes.specs.Reading.{sequence_at}
use Rattle.read_follow.specs.Bodies.{behind}
use Rattle.read_follow.proofs.skips.skip_each.Given as goal

abbrev pub invariant-loop : goal.invariant-loop
invariant-loop g l = behind (sequence_at g.T.Skips.reader (l.fn.count - l.counter) l.rest) ≡ behind (sequence_at g.T.Skips.reader l.fn.count l.fn.bytes)
