use Rattle.std.proofs.Common.{◌≡◌, length}
use Rattle.text_plain.proofs.NeedLaws.{AllBelow}
use Rattle.text_plain.proofs.needs.needs_of_worlds.Given as goal

-- the numbers so far are those of worlds
abbrev pub invariant-loop-world : goal.invariant-loop-world
invariant-loop-world l = AllBelow (length l.worlds.worlds.items) l.all.items × (length l.all.items ≡ l.world-index)
