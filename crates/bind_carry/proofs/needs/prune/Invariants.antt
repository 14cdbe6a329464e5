use Rattle.std.proofs.Common.{◌≡◌, ◌++◌, drop, length}
use Rattle.bind_carry.specs.Needs.{pruned_by}
use Rattle.bind_carry.proofs.needs.prune.Given as goal

-- the fates so far, with those of what is left, are all
abbrev pub invariant-loop-number : goal.invariant-loop-number
invariant-loop-number l = record {
  fates : l.done.items ++ pruned_by (drop l.number l.marks.items) (drop l.number l.fates) ≡ pruned_by l.marks.items l.fates;
  count : length l.done.items ≡ l.number;
  long : length l.marks.items ≡ length l.fates;
}
