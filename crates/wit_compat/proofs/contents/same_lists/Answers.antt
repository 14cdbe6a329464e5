use Rattle.wit_compat.proofs.WorldContents.{lists_exact}
use Rattle.wit_compat.proofs.contents.same_lists.Goals as goal

pub returns-clause-exact : goal.returns-clause-exact
returns-clause-exact c = lists_exact c.in_ok-same.same c.in_ok-found.ensures.sense c.in_ok-others.ensures.sense c.in_ok-same.ensures.exact
