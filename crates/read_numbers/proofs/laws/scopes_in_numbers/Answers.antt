use Rattle.read_numbers.proofs.ScopeNumbers.{scopes_in_numbers, keys_in_numbers}
use Rattle.read_numbers.proofs.laws.scopes_in_numbers.Goals as goal

pub returns-clause-scopes : goal.returns-clause-scopes
returns-clause-scopes c = scopes_in_numbers

pub returns-clause-keys : goal.returns-clause-keys
returns-clause-keys c = keys_in_numbers
