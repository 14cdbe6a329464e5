use Rattle.std.proofs.Common.{◌≡◌, map, take}
use Rattle.wit_model.specs.Types.{type_tree}
use Rattle.compat_meaning.specs.TwoSides.{AllSame}
use Rattle.wit_compat.proofs.sense.same_types.Given as goal

-- those so far stand for the same
abbrev pub invariant-loop-i : goal.invariant-loop-i
invariant-loop-i l = record {
  same : map (type_tree l.left.resolve.now) (take l.i l.xs) ≡ map (type_tree l.right.resolve.now) (take l.i l.ys);
  kept : AllSame l.left.resolve.now l.right.resolve.now l.pairs.keys;
}
