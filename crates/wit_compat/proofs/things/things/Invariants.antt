use Rattle.std.proofs.Common.{◌≡◌, ◌++◌, true, map}
use Rattle.wit_model.specs.Rules.{entries_in_range}
use Rattle.compat_meaning.specs.{Flat.things_of, Numbered.AreNumbered, Numbered.KeepsNumbers, Parts.named_thing}
use Rattle.wit_compat.proofs.things.things.Given as goal

-- what is there, and what is left
abbrev pub invariant-loop-key : goal.invariant-loop-key
invariant-loop-key l = record {
  made : map named_thing l.entries.items ++ things_of l.resolve l.key-iterator ≡ things_of l.resolve l.items.entries;
  in_range : entries_in_range l.resolve l.key-iterator ≡ true;
  numbered : AreNumbered l.keys.keys l.entries.items;
  kept : KeepsNumbers l.fn.keys.keys l.keys.keys;
}
