use Rattle.std.proofs.Common.{take}
use Rattle.std.specs.List.{AllZip}
use Rattle.compat_meaning.specs.{Walk.pairs_at, Table.Grows, Table.Joined}
use Rattle.compat_meaning.proofs.pairs.meet_all.Given as goal

abbrev pub invariant-loop-i : goal.invariant-loop-i
invariant-loop-i l = record { grown : Grows l.fn.pairs.keys l.pairs.keys (pairs_at l.heads l.prev l.new); joined : AllZip (Joined l.heads l.pairs.keys) (take l.i l.prev) (take l.i l.new) }
