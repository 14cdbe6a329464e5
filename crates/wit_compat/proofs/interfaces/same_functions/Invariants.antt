use Rattle.std.proofs.Common.{map}
use Rattle.wit_model.specs.{Meant.function_meaning, Text.text_of}
use Rattle.compat_meaning.specs.TwoSides.{AllSame}
use Rattle.wit_compat.proofs.SameMaps.{entry, IsAlong}
use Rattle.wit_compat.proofs.interfaces.same_functions.Given as goal

-- those so far are found among the others
abbrev pub invariant-loop-name : goal.invariant-loop-name
invariant-loop-name l = record {
  along : IsAlong text_of (function_meaning l.left.resolve.now) (map (entry text_of (function_meaning l.right.resolve.now)) l.others.entries) l.functions.entries l.name-iterator;
  kept : AllSame l.left.resolve.now l.right.resolve.now l.pairs.keys;
}
