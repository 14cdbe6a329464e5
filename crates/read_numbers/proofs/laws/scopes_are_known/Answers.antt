use Rattle.read_numbers.proofs.KnownScopes.{scopes_are_known, views_are_known}
use Rattle.read_numbers.proofs.laws.scopes_are_known.Goals as goal

pub returns-clause-scopes : goal.returns-clause-scopes
returns-clause-scopes c = scopes_are_known

pub returns-clause-views : goal.returns-clause-views
returns-clause-views c = views_are_known
