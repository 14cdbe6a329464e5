use Rattle.std.proofs.Common.{sym, ◌∙◌}
use Rattle.text_trees.proofs.Gaps.{docs_none, docs_some}
use Rattle.text_trees.proofs.front.gap_at.Goals as goal

pub returns-in-Some : goal.returns-in-Some
returns-in-Some c =
    docs_some c.args.tokens.now c.args.at c.in-Some.place _ c.requires (sym c.place_at.ensures ∙ c.in-Some.is) c.gap_start.ensures

pub returns-in-None : goal.returns-in-None
returns-in-None c = docs_none c.args.tokens.now c.args.at c.requires (sym c.place_at.ensures ∙ c.in-None.is)
