use Rattle.read_follow.specs.InstanceScopes.{state_of, tables_of, IsFollowed}
use Rattle.read_follow.proofs.instances.follow_body.Given as goal

abbrev pub invariant-loop : goal.invariant-loop
invariant-loop l = IsFollowed l.marks l.here (tables_of l.fn.table l.fn.functions) l.outer l.body l.counter l.rest (state_of l.table l.functions l.scope)
