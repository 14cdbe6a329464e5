use Rattle.std.proofs.Common.{◌++◌, map, take}
use Rattle.compat_meaning.specs.{Parts.named_thing, Walk.pairs_shared, Table.AreAmong, Table.AreReached, Table.IsSettled}
use Rattle.wit_compat.specs.{Index.indexed}
use Rattle.wit_compat.proofs.Including.{AllStand}
use Rattle.wit_compat.proofs.included.included.Given as goal

-- the entries so far stand, and the table is settled
abbrev pub invariant-loop-entry : goal.invariant-loop-entry
invariant-loop-entry l = record {
  settled : IsSettled l.resolve l.pairs.keys l.steps.count;
  stand : AllStand l.resolve l.back (indexed l.large.entries) l.pairs.keys (take l.entry-index l.small);
  kept : AreAmong l.fn.pairs.keys l.pairs.keys;
  reached : AreReached l.resolve (l.fn.pairs.keys ++ pairs_shared l.resolve l.back (map named_thing l.small) (indexed l.large.entries)) l.pairs.keys;
}
