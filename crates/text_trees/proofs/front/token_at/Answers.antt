use Rattle.text_trees.proofs.Ahead.{below_if, token_if, token_none}
use Rattle.text_trees.proofs.front.token_at.Goals as goal

pub returns-clause-some : goal.returns-clause-some
returns-clause-some c = token_if c.args.tokens.now c.args.at _ c.place_at.ensures

pub returns-clause-none : goal.returns-clause-none
returns-clause-none c = λ e. token_none c.args.tokens.now c.args.at _ c.place_at.ensures e

pub returns-clause-below : goal.returns-clause-below
returns-clause-below c = below_if c.args.tokens.now c.args.at _ c.place_at.ensures
