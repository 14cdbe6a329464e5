use Rattle.std.proofs.Common.{◌-◌}
use Rattle.text_trees.specs.{Seen.count_of, Seen.text_of, TreesSeen.marks_of}
use Rattle.text_trees.proofs.Marking.{Marking}
use Rattle.text_trees.proofs.prefix.marks_at.Given as goal

abbrev pub invariant-attributes : goal.invariant-attributes
invariant-attributes l = Marking l.tokens l.ids l.at l.from (marks_of (text_of l.tokens) l.marks)

abbrev pub decreases-attributes : goal.decreases-attributes
decreases-attributes l = count_of l.tokens - l.from
