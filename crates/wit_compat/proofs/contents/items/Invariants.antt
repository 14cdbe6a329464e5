use Rattle.std.proofs.Common.{◌≡◌, true}
use Rattle.wit_model.specs.Rules.{entries_in_range}
use Rattle.compat_meaning.specs.TwoSides.{AllItemsInRange}
use Rattle.wit_compat.proofs.WorldContents.{IsSplit}
use Rattle.wit_compat.proofs.contents.items.Given as goal

-- the items so far, and those that are left
abbrev pub invariant-loop-key : goal.invariant-loop-key
invariant-loop-key l = record {
  split : IsSplit l.side.resolve.now l.items.entries l.key-iterator l.list.entries;
  made : AllItemsInRange l.side.resolve.now l.items.entries;
  left : entries_in_range l.side.resolve.now l.key-iterator ≡ true;
}
