use Rattle.std.proofs.Common.{◌-◌}
use Rattle.text_trees.specs.Seen.{count_of, docs_ahead, mark_there, text_of}
use Rattle.text_trees.proofs.Listings.{Listing}
use Rattle.text_trees.proofs.lists.listed_at.Given as goal

abbrev pub invariant-items : goal.invariant-items
invariant-items g l = Listing l.tokens (g.T.Form.reader (docs_ahead l.tokens)) (mark_there l.close) (g.T.Form.view (text_of l.tokens)) l.at l.from l.items.items

abbrev pub decreases-items : goal.decreases-items
decreases-items g l = count_of l.tokens - l.from
