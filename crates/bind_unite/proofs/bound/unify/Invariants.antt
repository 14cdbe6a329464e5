use Rattle.std.proofs.Common.{◌≡◌, true, length}
use Rattle.bind_carry.specs.BoundGains.{are_types_below, unified}
use Rattle.bind_unite.proofs.bound.unify.Given as goal

-- the fates so far, with those of the items that are left, are all
abbrev pub invariant-loop-key : goal.invariant-loop-key
invariant-loop-key l = record {
  left : are_types_below (length l.fates) l.key-iterator ≡ true;
  fates : unified l.here.entries l.key-iterator l.fates ≡ unified l.here.entries l.items.entries l.initial.fates;
  count : length l.fates ≡ length l.initial.fates;
}
