use Rattle.read_parts.proofs.ScopeMeaning.{package_by_scopes, world_by_scopes}
use Rattle.read_parts.proofs.laws.meaning_by_scopes.Goals as goal

pub returns-clause-package_ : goal.returns-clause-package_
returns-clause-package_ c = package_by_scopes

pub returns-clause-world : goal.returns-clause-world
returns-clause-world c = world_by_scopes
