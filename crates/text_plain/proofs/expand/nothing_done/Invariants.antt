use Rattle.std.proofs.Common.{◌≡◌, length}
use Rattle.text_plain.specs.Expanding.{AreNone}
use Rattle.text_plain.proofs.expand.nothing_done.Given as goal

-- nothing is done so far
abbrev pub invariant-loop : goal.invariant-loop
invariant-loop l = (length l.done.items ≡ l.counter) × AreNone l.done.items
