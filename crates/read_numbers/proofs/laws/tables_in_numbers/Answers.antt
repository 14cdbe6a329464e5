use Rattle.read_numbers.proofs.TableNumbers.{tables_in_numbers, places_in_numbers}
use Rattle.read_numbers.proofs.laws.tables_in_numbers.Goals as goal

pub returns-clause-tables : goal.returns-clause-tables
returns-clause-tables c = tables_in_numbers

pub returns-clause-places : goal.returns-clause-places
returns-clause-places c = places_in_numbers
