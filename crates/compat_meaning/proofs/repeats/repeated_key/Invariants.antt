use Rattle.std.proofs.Common.{◌≡◌, ◌++◌, true}
use Rattle.std.specs.List.{IsDistinct}
use Rattle.wit_model.specs.{Rules.entries_in_range, Text.text_eq}
use Rattle.compat_meaning.specs.Compatible.{bare_keys}
use Rattle.compat_meaning.proofs.Repeating.{now}
use Rattle.compat_meaning.proofs.repeats.repeated_key.Given as goal

-- the keys that were seen are different, and what is left follows them
abbrev pub invariant-loop-key : goal.invariant-loop-key
invariant-loop-key l = record {
  split : bare_keys l.resolve l.items.entries ≡ now l.seen.keys ++ bare_keys l.resolve l.key-iterator;
  once : IsDistinct text_eq (now l.seen.keys);
  in_range : entries_in_range l.resolve l.key-iterator ≡ true;
}
