use Rattle.std.proofs.Common.{◌≡◌, ◌+◌, ◌++◌, drop, length}
use Rattle.bind_carry.specs.{Fates.numbers_by, TooLong.copies_of}
use Rattle.bind_carry.proofs.moved.type_places.Given as goal

-- each type so far has its number, and with those that are left there are as many places as are copied
abbrev pub invariant-loop-fate : goal.invariant-loop-fate
invariant-loop-fate l = record {
  numbered : l.numbers.items ++ numbers_by (l.own + length l.places.items) (drop l.fate-index l.fates) ≡ numbers_by (l.own + length l.initial.places.items) l.fates;
  counted : length l.places.items + copies_of (drop l.fate-index l.fates) ≡ length l.initial.places.items + copies_of l.fates;
}
