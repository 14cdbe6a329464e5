use Rattle.std.proofs.Common.{◌≡◌, map, take}
use Rattle.text_trees.specs.TreesSeen.{used_name_of}
use Rattle.text_plain.specs.Expanding.{all_said, own_said}
use Rattle.text_plain.proofs.expand.names_of.Given as goal

-- the names so far stand in the table
abbrev pub invariant-loop-used : goal.invariant-loop-used
invariant-loop-used l = all_said l.place.whole.now l.table.entries ≡ map own_said (map (used_name_of l.place.from.now) (take l.used-index l.names))
