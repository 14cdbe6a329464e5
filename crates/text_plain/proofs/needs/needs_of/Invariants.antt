use Rattle.std.proofs.Common.{length}
use Rattle.text_plain.specs.Needs.{AreBelow}
use Rattle.text_plain.proofs.needs.needs_of.Given as goal

-- the numbers so far are those of worlds
abbrev pub invariant-loop-part : goal.invariant-loop-part
invariant-loop-part l = AreBelow (length l.worlds.worlds.items) l.needs.items
