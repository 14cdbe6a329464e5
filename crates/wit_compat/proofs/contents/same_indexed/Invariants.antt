use Rattle.std.proofs.Common.{map}
use Rattle.std.specs.Borrow.{Bor}
use Rattle.wit_model.specs.declared.model.WorldItem.{WorldItem}
use Rattle.wit_model.specs.{Meaning.entry_sense, Meant.entry_meaning, Text.text_of}
use Rattle.compat_meaning.specs.TwoSides.{sense_entry, AllSame}
use Rattle.wit_compat.proofs.SameMaps.{IsAlong}
use Rattle.wit_compat.proofs.contents.same_indexed.Given as goal

-- those so far are found among the others
abbrev pub invariant-loop-key : goal.invariant-loop-key
invariant-loop-key l = record {
  along : IsAlong text_of (λ (i : Bor WorldItem). entry_sense (entry_meaning l.left.resolve.now i.now)) (map (sense_entry l.right.resolve.now) l.others.entries) l.items.entries l.key-iterator;
  kept : AllSame l.left.resolve.now l.right.resolve.now l.pairs.keys;
}
