use Rattle.std.proofs.Common.{◌-◌, map}
use Rattle.text_trees.specs.{Seen.count_of, Seen.text_of, TextTreesSeen.nested_of}
use Rattle.text_trees.proofs.Pieces.{Gathering}
use Rattle.text_trees.proofs.packages.pieces_at.Given as goal

abbrev pub invariant-pieces : goal.invariant-pieces
invariant-pieces l = Gathering l.tokens (map (nested_of (text_of l.tokens)) l.fn.first.items) l.at l.from l.items.items l.nested.items

abbrev pub decreases-pieces : goal.decreases-pieces
decreases-pieces l = count_of l.tokens - l.from
