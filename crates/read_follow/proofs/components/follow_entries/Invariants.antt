use Rattle.std.specs.Prelude.{IfSome}
use Rattle.read_follow.specs.{Bodies.IsInFront, Scopes.start_of, Scopes.world_of, Scopes.IsFollowedTo, NameTables.AreNamesOf}
use Rattle.read_follow.proofs.components.follow_entries.Given as goal

abbrev pub invariant-loop : goal.invariant-loop
invariant-loop l = IsFollowedTo (start_of l.home l.fn.table l.fn.functions l.fn.places) l.entries.body l.counter l.rest (world_of l.table l.functions l.places l.scope)
    × (AreNamesOf l.names l.scope.instances.items × IfSome l.first (λ first. IsInFront first l.rest))
