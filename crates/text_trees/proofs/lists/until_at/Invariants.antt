use Rattle.std.proofs.Common.{◌-◌}
use Rattle.text_trees.specs.Seen.{count_of, docs_ahead, mark_there, text_of}
use Rattle.text_trees.specs.Reading.{begins}
use Rattle.text_trees.proofs.Untils.{Reaching}
use Rattle.text_trees.proofs.lists.until_at.Given as goal

abbrev pub invariant-items : goal.invariant-items
invariant-items g l = Reaching l.tokens (g.T.Form.reader (docs_ahead l.tokens)) (begins (mark_there l.close)) (g.T.Form.view (text_of l.tokens)) l.at l.from l.items.items

abbrev pub decreases-items : goal.decreases-items
decreases-items g l = count_of l.tokens - l.from
