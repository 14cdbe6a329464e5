use Rattle.text_trees.proofs.Exact.{members_exact, externs_exact, world_members_exact}
use Rattle.text_trees.proofs.laws.members_are_read.Goals as goal

pub returns-clause-interfaces : goal.returns-clause-interfaces
returns-clause-interfaces c = members_exact

pub returns-clause-externs : goal.returns-clause-externs
returns-clause-externs c = externs_exact

pub returns-clause-worlds : goal.returns-clause-worlds
returns-clause-worlds c = world_members_exact
